use Rattle.chip_set.proofs.PartLaws.{read_asked}
use Rattle.chip_set.proofs.chips.Chips.blit_read_in_turn.Goals as goal

pub returns-in-Some : goal.returns-in-Some
returns-in-Some c = read_asked c.area_read.result _ _ c.in-Some.blit c.self.view_is c.requires c.in-Some.is c.area_read.ensures
