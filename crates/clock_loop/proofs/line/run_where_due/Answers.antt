-- Where it is not time to look, or the Copper wants the slot, none is made.
use Rattle.std.proofs.Common.{subst, sym}
use Rattle.clock_loop.specs.code.BusRun.{HasRunOnBus}
use Rattle.foreground.specs.Fore.{ForeOf, over}
use Rattle.clock_loop.proofs.BusLaws.{none_made}
use Rattle.clock_loop.proofs.line.run_where_due.Goals as goal

pub returns-then-not-is_due-clause-runs : goal.returns-then-not-is_due-clause-runs
returns-then-not-is_due-clause-runs g c =
    none_made c.args.limit (over g.S.Side.seen c.args.fore.now) (g.Q.Raster.seen c.args.raster.now) c.args.out.now

pub returns-then-is_some-clause-runs : goal.returns-then-is_some-clause-runs
returns-then-is_some-clause-runs g c =
    let of = over g.S.Side.seen in
    subst (λ (f : ForeOf _). HasRunOnBus c.args.limit (of c.args.fore.now) (of f) (g.Q.Raster.seen c.args.raster.now) (g.Q.Raster.seen c.args.raster.now)
    c.args.out.now c.args.out.now) (sym c.look_in_vain.ensures)
    (none_made c.args.limit (of c.args.fore.now) (g.Q.Raster.seen c.args.raster.now) c.args.out.now)
