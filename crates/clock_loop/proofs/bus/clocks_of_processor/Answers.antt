use Rattle.clock_loop.proofs.BusLaws.{none_made}
use Rattle.clock_loop.proofs.bus.clocks_of_processor.Goals as goal

pub returns-then-asks-clause-runs : goal.returns-then-asks-clause-runs
returns-then-asks-clause-runs g c = none_made _ _ _ _
