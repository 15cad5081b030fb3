use Rattle.quiet_clocks.proofs.QuietClock.{quiet_tick, quiet_makes, still_is_calm}
use Rattle.quiet_clocks.proofs.laws.quiet_clock.Goals as goal

pub returns-clause-tick : goal.returns-clause-tick
returns-clause-tick c = quiet_tick

pub returns-clause-makes : goal.returns-clause-makes
returns-clause-makes c = quiet_makes

pub returns-clause-still : goal.returns-clause-still
returns-clause-still c = still_is_calm
