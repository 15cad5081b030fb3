use Rattle.chip_set.proofs.PartLaws.{zero_of_blit, zero_as_left}
use Rattle.chip_set.proofs.chips.Chips.is_zero.Goals as goal

pub returns-in-Some : goal.returns-in-Some
returns-in-Some c x is = zero_of_blit _ _ c.in-Some.blit c.zero.result x c.self.view_is c.in-Some.is c.zero.ensures is

pub returns-in-None : goal.returns-in-None
returns-in-None c x is = zero_as_left _ _ x c.self.view_is c.in-None.is is
