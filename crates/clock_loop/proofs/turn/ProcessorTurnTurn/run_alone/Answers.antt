use Rattle.std.proofs.Common.{None}
use Rattle.foreground.specs.Fore.{over}
use Rattle.clock_loop.proofs.BusLaws.{none_made}
use Rattle.clock_loop.proofs.ClockLaws.{all_left}
use Rattle.clock_loop.proofs.turn.ProcessorTurnTurn.run_alone.Goals as goal

pub returns-then-asks-clause-runs : goal.returns-then-asks-clause-runs
returns-then-asks-clause-runs g c seen = none_made c.args.limit (over g.S.Side.seen c.args.fore.now) seen c.args.out.now

pub returns-then-asks-clause-can : goal.returns-then-asks-clause-can
returns-then-asks-clause-can g c =
    all_left c.args.limit c.args.left None c.args.rest c.args.claim.now (over g.S.Side.seen c.args.fore.now) c.requires.can
