use Rattle.quiet_clocks.proofs.Ticks.{ticks_in_closed_form, ticks_twice, fewer_ticks, ticks_of_two, one_tick_more, no_tick_more}
use Rattle.quiet_clocks.proofs.laws.timer_ticks.Goals as goal

pub returns-clause-closed : goal.returns-clause-closed
returns-clause-closed c = ticks_in_closed_form

pub returns-clause-twice : goal.returns-clause-twice
returns-clause-twice c = ticks_twice

pub returns-clause-fewer : goal.returns-clause-fewer
returns-clause-fewer c = fewer_ticks

pub returns-clause-of_two : goal.returns-clause-of_two
returns-clause-of_two c = ticks_of_two

pub returns-clause-more : goal.returns-clause-more
returns-clause-more c = one_tick_more

pub returns-clause-less : goal.returns-clause-less
returns-clause-less c = no_tick_more
