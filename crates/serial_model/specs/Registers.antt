-- The kept words of the custom registers: what reads, writes and pointers make of them.
use Rattle.std.specs.Prelude.{ℕ, ◌+◌, ◌*◌, ◌/◌, ◌%◌, Bool, true, false, ◌&&◌, ◌==◌, nat_le, if◌then◌else◌, List, slice_index, slice_set, replicate, bit_and}
use Rattle.irq_cia.specs.Bits.{has_bits, set_or_clear}
use Rattle.ocs_base.specs.AddressOf.{addr_at}
use Rattle.ocs_base.specs.declared.addr.Addr.{Addr}
use Rattle.ocs_base.specs.declared.chip_size.ChipSize.{ChipSize}
use Rattle.ocs_base.specs.declared.chip_size.ChipSize.TheVariants.{Kib512, Mib1}
use Rattle.serial_model.specs.declared.registers.Effect.{Effect}
use Rattle.serial_model.specs.declared.registers.Effect.TheVariants as E
use Rattle.serial_model.specs.declared.registers.Live.{Live}
use Rattle.serial_model.specs.declared.registers.Reading.{Reading}
use Rattle.serial_model.specs.declared.registers.Reading.TheVariants.{Zero, DmaAndBlitter, FieldAndLine, LineAndClock, Joystick, Elsewhere}
use Rattle.serial_model.specs.declared.registers.Writing.{Writing}
use Rattle.serial_model.specs.declared.registers.Writing.TheVariants.{Ignored, Plain, PointerHigh, SetOrClear, Jump, Blit, Picture, Interrupt, Field}
use Rattle.serial_model.specs.RegisterTable.{reading_at, writing_at, kept_bits_at}

-- the kept words of the custom registers, by half their offset, with the size of chip memory, by which pointers go
pub record Registers : Type 0 where
  pub size : ChipSize
  pub words : List ℕ

-- the kept word of the register at an offset from DFF000
abbrev pub kept_word : Registers → ℕ → ℕ
kept_word registers offset = slice_index registers.words (offset / 2)

abbrev pub with_word : Registers → ℕ → ℕ → Registers
with_word registers offset word = record registers { words = slice_set registers.words (offset / 2) word }

-- every register is 0 at reset
unfoldable pub no_registers : ChipSize → Registers
no_registers size = record { size = size; words = replicate 256 0 }

-- the address in a pointer's high and low word, the high one at the offset
abbrev pub pointer_at : Registers → ℕ → Addr
pointer_at registers high = addr_at registers.size (65536 * kept_word registers high + kept_word registers (high + 2))

-- the table in which a pointer holds an address
abbrev pub with_pointer : Registers → ℕ → ℕ → Registers
with_pointer registers high address = with_word (with_word registers high (address / 65536)) (high + 2) (address % 65536)

-- the kept word of DMACON: BLTPRI 400, DMAEN 200, BPLEN 100, COPEN 80, BLTEN 40, SPREN 20, DSKEN 10 and, for the channels 3 to 0
-- of audio, AUD3EN 8 to AUD0EN 1 (hexadecimal)
abbrev pub dmacon_of : Registers → ℕ
dmacon_of registers = kept_word registers 0x96

-- DMAEN and COPEN of DMACON are both set
abbrev pub copper_dma : Registers → Bool
copper_dma registers = has_bits (dmacon_of registers) 0x280

-- DMAEN and BLTEN of DMACON are both set
abbrev pub blitter_dma : Registers → Bool
blitter_dma registers = has_bits (dmacon_of registers) 0x240

-- BLTPRI of DMACON
abbrev pub blitter_first : Registers → Bool
blitter_first registers = has_bits (dmacon_of registers) 0x400

-- LACE, bit 2 of BPLCON0
abbrev pub is_interlaced : Registers → Bool
is_interlaced registers = has_bits (kept_word registers 0x100) 0x4

-- CDANG, bit 1 of COPCON
abbrev pub is_danger : Registers → Bool
is_danger registers = has_bits (kept_word registers 0x2e) 0x2

-- while the blitter is busy, a write to 040 to 074 changes nothing (profile)
abbrev pub is_closed : Bool → ℕ → Bool
is_closed busy offset = busy && nat_le 0x40 offset && nat_le offset 0x74

-- what a write does, of a word to a register that is not closed
abbrev pub effect_in : Writing → ℕ → Effect
effect_in Ignored word = E.Nothing
effect_in Plain word = E.Kept
effect_in PointerHigh word = E.Kept
effect_in SetOrClear word = E.Kept
effect_in (Jump list) word = E.Jump list
effect_in Blit word = E.Blit
effect_in Picture word = E.Picture
effect_in Interrupt word = E.Interrupt
effect_in Field word = E.Lof (nat_le 0x8000 word)

-- the effect of a write
unfoldable pub effect_of : Bool → ℕ → ℕ → Effect
effect_of busy offset word = if is_closed busy offset then E.Nothing else effect_in (writing_at offset) word

-- the bits that the high word of a pointer keeps: those above bit 15 that addresses of this chip memory have
abbrev pub high_bits : ChipSize → ℕ
high_bits Kib512 = 0x7
high_bits Mib1 = 0xf

-- the kept words after a write of a word to a register that is not closed
abbrev pub words_in : Writing → Registers → ℕ → ℕ → Registers
words_in Ignored registers offset word = registers
words_in Plain registers offset word = with_word registers offset (bit_and word (kept_bits_at offset))
words_in PointerHigh registers offset word = with_word registers offset (bit_and word (high_bits registers.size))
words_in SetOrClear registers offset word =
    with_word registers offset (set_or_clear (kept_bits_at offset) (kept_word registers offset) word)
words_in (Jump list) registers offset word = with_word registers offset (bit_and word (kept_bits_at offset))
words_in Blit registers offset word = with_word registers offset (bit_and word (kept_bits_at offset))
words_in Picture registers offset word = with_word registers offset (bit_and word (kept_bits_at offset))
words_in Interrupt registers offset word = registers
words_in Field registers offset word = with_word registers offset (bit_and word (kept_bits_at offset))

-- the kept words after a write
unfoldable pub words_after : Bool → Registers → ℕ → ℕ → Registers
words_after busy registers offset word =
    if is_closed busy offset then registers else words_in (writing_at offset) registers offset word

-- a write that reaches Denise
abbrev pub is_picture_kind : Writing → Bool
is_picture_kind Ignored = false
is_picture_kind Plain = false
is_picture_kind PointerHigh = false
is_picture_kind SetOrClear = false
is_picture_kind (Jump list) = false
is_picture_kind Blit = false
is_picture_kind Picture = true
is_picture_kind Interrupt = false
is_picture_kind Field = false

-- one of Denise's registers, whose write changes the picture state
unfoldable pub is_picture_register : ℕ → Bool
is_picture_register offset = is_picture_kind (writing_at offset)

-- a bit's worth where it is set
abbrev pub bit_worth : Bool → ℕ → ℕ
bit_worth set worth = if set then worth else 0

-- what a read of a register gives: DMACONR has BBUSY in bit 14 and BZERO in bit 13, VPOSR has LOF in bit 15. CLXDAT and the
-- interrupt words are kept elsewhere
abbrev pub word_in : Reading → Live → Registers → ℕ
word_in Zero live registers = 0
word_in DmaAndBlitter live registers =
    bit_and (dmacon_of registers) 0x7ff + bit_worth live.zero 0x2000 + bit_worth live.busy 0x4000
word_in FieldAndLine live registers = live.beam.v / 256 % 2 + bit_worth live.beam.lof 0x8000
word_in LineAndClock live registers = 256 * (live.beam.v % 256) + live.beam.h % 256
word_in (Joystick port) live registers = if port == 0 then live.joy0 else live.joy1
word_in Elsewhere live registers = 0

unfoldable pub word_at : Live → Registers → ℕ → ℕ
word_at live registers offset = word_in (reading_at offset) live registers
