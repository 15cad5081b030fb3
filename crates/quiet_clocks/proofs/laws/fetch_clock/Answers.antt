-- laws.rt's `quiet_clocks::laws::fetch_clock`: a clock at which everybody but the bitplanes rests.
use Rattle.quiet_clocks.proofs.laws.fetch_clock.Goals as goal
use Rattle.quiet_clocks.proofs.FetchClocks.{planes_have, fetch_tick, fetch_makes, still_is_at_rest}

pub returns-clause-has : goal.returns-clause-has
returns-clause-has c = planes_have

pub returns-clause-tick : goal.returns-clause-tick
returns-clause-tick c = fetch_tick

pub returns-clause-makes : goal.returns-clause-makes
returns-clause-makes c = fetch_makes

pub returns-clause-still : goal.returns-clause-still
returns-clause-still c = still_is_at_rest
