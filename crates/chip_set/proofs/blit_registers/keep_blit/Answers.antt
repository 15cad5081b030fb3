use Rattle.chip_set.proofs.ChipsLaws.{pointer_a, pointer_b, pointer_c, pointer_d}
use Rattle.chip_set.proofs.blit_registers.keep_blit.Goals as goal

pub set_pointer-requires : goal.set_pointer-requires
set_pointer-requires c = pointer_c c.masked.result.offset c.masked.ensures.offset

pub set_pointer-requires-2 : goal.set_pointer-requires-2
set_pointer-requires-2 c = pointer_b c.masked-2.result.offset c.masked-2.ensures.offset

pub set_pointer-requires-3 : goal.set_pointer-requires-3
set_pointer-requires-3 c = pointer_a c.masked-3.result.offset c.masked-3.ensures.offset

pub set_pointer-requires-4 : goal.set_pointer-requires-4
set_pointer-requires-4 c = pointer_d c.masked-4.result.offset c.masked-4.ensures.offset
