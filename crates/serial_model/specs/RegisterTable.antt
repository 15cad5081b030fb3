-- The custom registers, by their offset from DFF000: which there are, and what a read and a write do.
use Rattle.std.specs.Prelude.{ℕ, ◌+◌, ◌-◌, ◌*◌, ◌%◌, Bool, true, false, ◌&&◌, ◌==◌, nat_le, nat_lt, if◌then◌else◌, List, [], ◌∷◌, codes}
use Rattle.serial_model.specs.declared.registers.Reading.{Reading}
use Rattle.serial_model.specs.declared.registers.Reading.TheVariants as R
use Rattle.serial_model.specs.declared.registers.Writing.{Writing}
use Rattle.serial_model.specs.declared.registers.Writing.TheVariants as W

-- one register, or a group of them that lie so far apart
pub record Row : Type 0 where
  pub first : ℕ
  pub count : ℕ
  pub apart : ℕ
  pub name : List ℕ
  -- what a read gives: 0 where the register is for writing only
  pub reading : Reading
  -- what a write does: nothing where the register is for reading only
  pub writing : Writing
  -- the bits of a written word that are kept
  pub kept_bits : ℕ

abbrev pub entry : ℕ → ℕ → ℕ → List ℕ → Reading → Writing → ℕ → Row
entry first count apart name reading writing kept_bits = record {
  first = first;
  count = count;
  apart = apart;
  name = name;
  reading = reading;
  writing = writing;
  kept_bits = kept_bits;
}

-- a register for reading only, and one or more for writing only
abbrev pub read_only : ℕ → List ℕ → Reading → Row
read_only offset name reading = entry offset 1 2 name reading W.Ignored 0

abbrev pub write_only : ℕ → List ℕ → Writing → ℕ → Row
write_only offset name writing kept_bits = entry offset 1 2 name R.Zero writing kept_bits

abbrev pub group : ℕ → ℕ → ℕ → List ℕ → Writing → ℕ → Row
group first count apart name writing kept_bits = entry first count apart name R.Zero writing kept_bits

-- the high word of a pointer, of which the size of chip memory says what it keeps
abbrev pub high_word : ℕ → List ℕ → Row
high_word offset name = write_only offset name W.PointerHigh 0

abbrev pub high_words : ℕ → ℕ → List ℕ → Row
high_words first count name = group first count 4 name W.PointerHigh 0

-- the table. A pointer keeps bits 15 to 1 of its low word; BLTAPTL keeps all, for line mode. The words of INTENA and INTREQ are
-- no part of the table: other chips change them too
unfoldable pub rows : List Row
rows =
    read_only 0x002 (codes "DMACONR") R.DmaAndBlitter
    ∷ read_only 0x004 (codes "VPOSR") R.FieldAndLine
    ∷ read_only 0x006 (codes "VHPOSR") R.LineAndClock
    ∷ read_only 0x00a (codes "JOY0DAT") (R.Joystick 0)
    ∷ read_only 0x00c (codes "JOY1DAT") (R.Joystick 1)
    ∷ read_only 0x00e (codes "CLXDAT") R.Elsewhere
    ∷ read_only 0x01c (codes "INTENAR") R.Elsewhere
    ∷ read_only 0x01e (codes "INTREQR") R.Elsewhere
    ∷ write_only 0x02a (codes "VPOSW") W.Field 0xffff
    ∷ write_only 0x02e (codes "COPCON") W.Plain 0xffff
    ∷ write_only 0x040 (codes "BLTCON0") W.Plain 0xffff
    ∷ write_only 0x042 (codes "BLTCON1") W.Plain 0xffff
    ∷ write_only 0x044 (codes "BLTAFWM") W.Plain 0xffff
    ∷ write_only 0x046 (codes "BLTALWM") W.Plain 0xffff
    ∷ high_word 0x048 (codes "BLTCPTH")
    ∷ write_only 0x04a (codes "BLTCPTL") W.Plain 0xfffe
    ∷ high_word 0x04c (codes "BLTBPTH")
    ∷ write_only 0x04e (codes "BLTBPTL") W.Plain 0xfffe
    ∷ high_word 0x050 (codes "BLTAPTH")
    ∷ write_only 0x052 (codes "BLTAPTL") W.Plain 0xffff
    ∷ high_word 0x054 (codes "BLTDPTH")
    ∷ write_only 0x056 (codes "BLTDPTL") W.Plain 0xfffe
    ∷ write_only 0x058 (codes "BLTSIZE") W.Blit 0xffff
    ∷ write_only 0x060 (codes "BLTCMOD") W.Plain 0xffff
    ∷ write_only 0x062 (codes "BLTBMOD") W.Plain 0xffff
    ∷ write_only 0x064 (codes "BLTAMOD") W.Plain 0xffff
    ∷ write_only 0x066 (codes "BLTDMOD") W.Plain 0xffff
    ∷ write_only 0x070 (codes "BLTCDAT") W.Plain 0xffff
    ∷ write_only 0x072 (codes "BLTBDAT") W.Plain 0xffff
    ∷ write_only 0x074 (codes "BLTADAT") W.Plain 0xffff
    ∷ high_word 0x080 (codes "COP1LCH")
    ∷ write_only 0x082 (codes "COP1LCL") W.Plain 0xfffe
    ∷ high_word 0x084 (codes "COP2LCH")
    ∷ write_only 0x086 (codes "COP2LCL") W.Plain 0xfffe
    ∷ write_only 0x088 (codes "COPJMP1") (W.Jump 1) 0xffff
    ∷ write_only 0x08a (codes "COPJMP2") (W.Jump 2) 0xffff
    ∷ write_only 0x08e (codes "DIWSTRT") W.Picture 0xffff
    ∷ write_only 0x090 (codes "DIWSTOP") W.Picture 0xffff
    ∷ write_only 0x092 (codes "DDFSTRT") W.Plain 0xffff
    ∷ write_only 0x094 (codes "DDFSTOP") W.Plain 0xffff
    ∷ write_only 0x096 (codes "DMACON") W.SetOrClear 0x07ff
    ∷ write_only 0x098 (codes "CLXCON") W.Picture 0xffff
    ∷ write_only 0x09a (codes "INTENA") W.Interrupt 0
    ∷ write_only 0x09c (codes "INTREQ") W.Interrupt 0
    ∷ high_words 0x0e0 6 (codes "BPL1PTH to BPL6PTH")
    ∷ group 0x0e2 6 4 (codes "BPL1PTL to BPL6PTL") W.Plain 0xfffe
    ∷ write_only 0x100 (codes "BPLCON0") W.Picture 0xffff
    ∷ write_only 0x102 (codes "BPLCON1") W.Picture 0xffff
    ∷ write_only 0x104 (codes "BPLCON2") W.Picture 0xffff
    ∷ write_only 0x108 (codes "BPL1MOD") W.Plain 0xffff
    ∷ write_only 0x10a (codes "BPL2MOD") W.Plain 0xffff
    ∷ group 0x110 6 2 (codes "BPL1DAT to BPL6DAT") W.Picture 0xffff
    ∷ high_words 0x120 8 (codes "SPR0PTH to SPR7PTH")
    ∷ group 0x122 8 4 (codes "SPR0PTL to SPR7PTL") W.Plain 0xfffe
    ∷ group 0x140 8 8 (codes "SPR0POS to SPR7POS") W.Picture 0xffff
    ∷ group 0x142 8 8 (codes "SPR0CTL to SPR7CTL") W.Picture 0xffff
    ∷ group 0x144 8 8 (codes "SPR0DATA to SPR7DATA") W.Picture 0xffff
    ∷ group 0x146 8 8 (codes "SPR0DATB to SPR7DATB") W.Picture 0xffff
    ∷ group 0x180 32 2 (codes "COLOR00 to COLOR31") W.Picture 0x0fff
    ∷ []

-- whether the register at an offset is one of the row's
abbrev pub in_row : Row → ℕ → Bool
in_row r offset =
    nat_le r.first offset && nat_lt offset (r.first + r.count * r.apart) && ((offset - r.first) % r.apart == 0)

-- an offset without a register reads as 0, and a write there changes nothing (profile)
abbrev pub no_row : Row
no_row = entry 0 0 2 [] R.Zero W.Ignored 0

abbrev pub row_among : List Row → ℕ → Row
row_among [] offset = no_row
row_among (r ∷ rs) offset = if in_row r offset then r else row_among rs offset

-- the row of an offset
unfoldable pub row_at : ℕ → Row
row_at offset = row_among rows offset

-- what a read at an offset gives, what a write there does, and the bits that it keeps
abbrev pub reading_at : ℕ → Reading
reading_at offset = (row_at offset).reading

abbrev pub writing_at : ℕ → Writing
writing_at offset = (row_at offset).writing

abbrev pub kept_bits_at : ℕ → ℕ
kept_bits_at offset = (row_at offset).kept_bits

abbrev pub is_pointer_kind : Writing → Bool
is_pointer_kind W.Ignored = false
is_pointer_kind W.Plain = false
is_pointer_kind W.PointerHigh = true
is_pointer_kind W.SetOrClear = false
is_pointer_kind (W.Jump list) = false
is_pointer_kind W.Blit = false
is_pointer_kind W.Picture = false
is_pointer_kind W.Interrupt = false
is_pointer_kind W.Field = false

-- the high word of a pointer; its low word is the next register's
abbrev pub is_pointer_high : ℕ → Bool
is_pointer_high offset = is_pointer_kind (writing_at offset)
