-- The blitter's registers: those with which a blit starts, and those that it leaves.
use Rattle.std.specs.Int.{w16, cast_signed}
use Rattle.blit_words.specs.declared.blit.BlitRegs.{BlitRegs}
use Rattle.serial_model.specs.Registers.{kept_word, with_word, pointer_at, with_pointer, Registers}

-- the registers with which a blit starts, from the kept words
unfoldable pub blit_start : Registers → BlitRegs
blit_start registers = record {
  con0 = kept_word registers 0x40;
  con1 = kept_word registers 0x42;
  afwm = kept_word registers 0x44;
  alwm = kept_word registers 0x46;
  size = kept_word registers 0x58;
  adat = kept_word registers 0x74;
  bdat = kept_word registers 0x72;
  cdat = kept_word registers 0x70;
  amod = cast_signed w16 (kept_word registers 0x64);
  bmod = cast_signed w16 (kept_word registers 0x62);
  cmod = cast_signed w16 (kept_word registers 0x60);
  dmod = cast_signed w16 (kept_word registers 0x66);
  apt = pointer_at registers 0x50;
  bpt = pointer_at registers 0x4c;
  cpt = pointer_at registers 0x48;
  dpt = pointer_at registers 0x54;
  aptl = kept_word registers 0x52;
}

-- the kept words with these pointers and data registers; the other registers are as they were
abbrev pub with_blit_pointers : BlitRegs → Registers → Registers
with_blit_pointers e registers =
    with_word
    (with_pointer (with_pointer (with_pointer (with_pointer registers 0x48 e.cpt.value) 0x4c e.bpt.value) 0x50 e.apt.value) 0x54 e.dpt.value)
    0x52
    e.aptl

abbrev pub with_blit_data : BlitRegs → Registers → Registers
with_blit_data e registers = with_word (with_word (with_word registers 0x70 e.cdat) 0x72 e.bdat) 0x74 e.adat

unfoldable pub with_blit : BlitRegs → Registers → Registers
with_blit e registers = with_blit_data e (with_blit_pointers e registers)
