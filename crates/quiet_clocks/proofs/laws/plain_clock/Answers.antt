use Rattle.quiet_clocks.proofs.PlainClock.{owned_tick}
use Rattle.quiet_clocks.proofs.laws.plain_clock.Goals as goal

pub returns : goal.returns
returns c = owned_tick
