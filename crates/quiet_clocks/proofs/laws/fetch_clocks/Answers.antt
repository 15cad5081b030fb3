-- laws.rt's `quiet_clocks::laws::fetch_clocks`: clocks at which everybody but the bitplanes rests.
use Rattle.quiet_clocks.proofs.laws.fetch_clocks.Goals as goal
use Rattle.quiet_clocks.proofs.FetchClocks.{fetch_span, fewer_fetch_clocks, each_is_fetch_clock, fetching_later}

pub returns-clause-span : goal.returns-clause-span
returns-clause-span c = fetch_span

pub returns-clause-fewer : goal.returns-clause-fewer
returns-clause-fewer c = fewer_fetch_clocks

pub returns-clause-each : goal.returns-clause-each
returns-clause-each c = each_is_fetch_clock

pub returns-clause-last : goal.returns-clause-last
returns-clause-last c = fetching_later
