use Rattle.foreground.specs.Fore.{over}
use Rattle.clock_loop.proofs.BusLaws.{none_made}
use Rattle.clock_loop.proofs.turn.AnyTurnTurn.run_alone.Goals as goal

pub returns-clause-runs : goal.returns-clause-runs
returns-clause-runs g c seen = none_made c.args._limit (over g.S.Side.seen c.args._fore.now) seen c.args._out.now
