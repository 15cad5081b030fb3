use Rattle.std.proofs.Common.{rules, ◌∙◌, FitsSigned}
use Rattle.std.specs.Int.{w16}
use Rattle.std.proofs.lemmas.Int.{to_z-of_z}
use Rattle.serial_model.specs.BlitRegisters.{blit_start}
use Rattle.serial_model.specs.Registers.{Registers}
use Rattle.chip_set.proofs.ChipsLaws.{pointer_a, pointer_b, pointer_c, pointer_d}
use Rattle.chip_set.proofs.StartLaws.{same_start, word_is, pointer_is, modulo_is}
use Rattle.chip_set.proofs.blit_registers.blit_registers.Goals as goal

pub pointer-requires : goal.pointer-requires
pointer-requires c = pointer_a c.masked-13.result.offset c.masked-13.ensures.offset

pub pointer-requires-2 : goal.pointer-requires-2
pointer-requires-2 c = pointer_b c.masked-14.result.offset c.masked-14.ensures.offset

pub pointer-requires-3 : goal.pointer-requires-3
pointer-requires-3 c = pointer_c c.masked-15.result.offset c.masked-15.ensures.offset

pub pointer-requires-4 : goal.pointer-requires-4
pointer-requires-4 c = pointer_d c.masked-16.result.offset c.masked-16.ensures.offset

pub returns : goal.returns
unfolding blit_start
returns c =
    let regs : Registers = c.args.regs.now in
    let fits_amod : FitsSigned w16 c.cast_signed.result = search rules in
    let fits_bmod : FitsSigned w16 c.cast_signed-2.result = search rules in
    let fits_cmod : FitsSigned w16 c.cast_signed-3.result = search rules in
    let fits_dmod : FitsSigned w16 c.cast_signed-4.result = search rules in
    same_start _ (blit_start regs)
    (word_is regs c.word.result _ 0x40 c.word.ensures c.masked.ensures.offset)
    (word_is regs c.word-2.result _ 0x42 c.word-2.ensures c.masked-2.ensures.offset)
    (word_is regs c.word-3.result _ 0x44 c.word-3.ensures c.masked-3.ensures.offset)
    (word_is regs c.word-4.result _ 0x46 c.word-4.ensures c.masked-4.ensures.offset)
    (word_is regs c.word-5.result _ 0x58 c.word-5.ensures c.masked-5.ensures.offset)
    (word_is regs c.word-6.result _ 0x74 c.word-6.ensures c.masked-6.ensures.offset)
    (word_is regs c.word-7.result _ 0x72 c.word-7.ensures c.masked-7.ensures.offset)
    (word_is regs c.word-8.result _ 0x70 c.word-8.ensures c.masked-8.ensures.offset)
    (to_z-of_z w16 c.cast_signed.result fits_amod
    ∙ modulo_is regs c.cast_signed.result c.word-9.result _ 0x64 c.cast_signed.ensures c.word-9.ensures c.masked-9.ensures.offset)
    (to_z-of_z w16 c.cast_signed-2.result fits_bmod
    ∙ modulo_is regs c.cast_signed-2.result c.word-10.result _ 0x62 c.cast_signed-2.ensures c.word-10.ensures c.masked-10.ensures.offset)
    (to_z-of_z w16 c.cast_signed-3.result fits_cmod
    ∙ modulo_is regs c.cast_signed-3.result c.word-11.result _ 0x60 c.cast_signed-3.ensures c.word-11.ensures c.masked-11.ensures.offset)
    (to_z-of_z w16 c.cast_signed-4.result fits_dmod
    ∙ modulo_is regs c.cast_signed-4.result c.word-12.result _ 0x66 c.cast_signed-4.ensures c.word-12.ensures c.masked-12.ensures.offset)
    (pointer_is regs c.pointer.result _ 0x50 c.pointer.ensures c.masked-13.ensures.offset)
    (pointer_is regs c.pointer-2.result _ 0x4c c.pointer-2.ensures c.masked-14.ensures.offset)
    (pointer_is regs c.pointer-3.result _ 0x48 c.pointer-3.ensures c.masked-15.ensures.offset)
    (pointer_is regs c.pointer-4.result _ 0x54 c.pointer-4.ensures c.masked-16.ensures.offset)
    (word_is regs c.word-13.result _ 0x52 c.word-13.ensures c.masked-17.ensures.offset)
