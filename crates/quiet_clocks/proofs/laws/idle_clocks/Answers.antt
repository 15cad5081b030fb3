use Rattle.quiet_clocks.proofs.IdleClocks.{idle_is_calm, last_later, unit_stays, unit_of_two, unit_can_begin, ticks_by_place}
use Rattle.quiet_clocks.proofs.laws.idle_clocks.Goals as goal

pub returns-clause-calm : goal.returns-clause-calm
returns-clause-calm c = idle_is_calm

pub returns-clause-last : goal.returns-clause-last
returns-clause-last c = last_later

pub returns-clause-stays : goal.returns-clause-stays
returns-clause-stays c = unit_stays

pub returns-clause-two : goal.returns-clause-two
returns-clause-two c = unit_of_two

pub returns-clause-can : goal.returns-clause-can
returns-clause-can c = unit_can_begin

pub returns-clause-ticks : goal.returns-clause-ticks
returns-clause-ticks c = ticks_by_place
