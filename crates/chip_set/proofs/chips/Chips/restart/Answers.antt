use Rattle.chip_set.proofs.ChipsLaws.{first_list, second_list}
use Rattle.chip_set.proofs.chips.Chips.restart.Goals as goal

pub pointer-at-requires : goal.pointer-at-requires
pointer-at-requires c = first_list c.masked.result.offset c.masked.ensures.offset

pub pointer-at-requires-else-list-eq1 : goal.pointer-at-requires-else-list-eq1
pointer-at-requires-else-list-eq1 c = second_list c.masked-else-list-eq1.result.offset c.masked-else-list-eq1.ensures.offset
