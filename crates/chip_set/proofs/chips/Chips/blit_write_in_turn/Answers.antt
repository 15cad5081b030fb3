use Rattle.chip_set.proofs.PartLaws.{write_asked}
use Rattle.chip_set.proofs.chips.Chips.blit_write_in_turn.Goals as goal

pub returns-in-Some : goal.returns-in-Some
returns-in-Some c = write_asked c.area_write.result _ _ c.in-Some.blit c.self.view_is c.requires c.in-Some.is c.area_write.ensures
