use Rattle.chip_set.proofs.PartLaws.{both_ticked, none_ticked}
use Rattle.chip_set.proofs.chips.Chips.tick_timers.Goals as goal

pub returns-then-t-eq0-clause-chips : goal.returns-then-t-eq0-clause-chips
returns-then-t-eq0-clause-chips c x is =
    both_ticked c.args.t _ _ c.tick.new.self c.tick-then-t-eq0.new.self x c.self.view_is c.if-t-eq0.true c.tick.ensures c.tick-then-t-eq0.ensures is

pub returns-else-t-eq0-clause-chips : goal.returns-else-t-eq0-clause-chips
returns-else-t-eq0-clause-chips c x is = none_ticked c.args.t c.args.self.now x c.if-t-eq0.false is
