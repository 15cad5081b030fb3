use Rattle.clock_loop.proofs.BusLaws.{none_made}
use Rattle.clock_loop.proofs.bus.clocks_of_blit.Goals as goal

pub returns-else-asks-clause-runs : goal.returns-else-asks-clause-runs
returns-else-asks-clause-runs g c = none_made _ _ _ _
