use Rattle.std.proofs.Common.{Ok, ap, refl, subst}
use Rattle.clock_loop.specs.code.BusRun.{ServesAsk, is_made}
use Rattle.foreground.specs.Fore.{over}
use Rattle.ocs_base.specs.declared.memory.OutOfMemory.{OutOfMemory}
use Rattle.clock_loop.proofs.EndLaws.{access_ends, access_refused}
use Rattle.clock_loop.proofs.clock.end_access.Goals as goal

pub returns-in_err-end_on_bus-in-Stays-clause-ends : goal.returns-in_err-end_on_bus-in-Stays-clause-ends
returns-in_err-end_on_bus-in-Stays-clause-ends g c ask old told serves =
    access_refused c.args.access ask old (over g.S.Side.seen c.args.fore.now) _ told _ _ c.from_residual.result c.from_residual.ensures.0
    (ap is_made c.in-Stays.is) serves c.end_on_bus.ensures.chip c.in_err-end_on_bus-in-Stays.ensures.refused c.end_on_bus.ensures.run

pub returns-in_ok-end_on_bus-in-Stays-clause-ends : goal.returns-in_ok-end_on_bus-in-Stays-clause-ends
returns-in_ok-end_on_bus-in-Stays-clause-ends g c ask old told serves =
    let place = c.in_ok-end_on_bus-in-Stays.ensures.place in
    access_ends _ ask old (over g.S.Side.seen c.args.fore.now) (over g.S.Side.seen c.end_on_bus.new.fore) place.0 told _ _ refl
    (subst (λ a. ServesAsk {E = OutOfMemory} ask old (over g.S.Side.seen c.args.fore.now) told c.args.out.now (Ok a)) c.in-Stays.is serves)
    c.in_ok-end_on_bus-in-Stays.ensures.ends place.1 c.end_on_bus.ensures.run c.end_on_bus.ensures.bus (ap g.S.Side.seen c.end_on_bus.ensures.side)

pub returns-in_err-end_on_bus-in-Ends-clause-ends : goal.returns-in_err-end_on_bus-in-Ends-clause-ends
returns-in_err-end_on_bus-in-Ends-clause-ends g c ask old told serves =
    access_refused c.args.access ask old (over g.S.Side.seen c.args.fore.now) _ told _ _ c.from_residual-in_err-end_on_bus-in-Ends.result
    c.from_residual-in_err-end_on_bus-in-Ends.ensures.0
    (ap is_made c.in-Ends.is) serves c.end_on_bus-in-Ends.ensures.chip c.in_err-end_on_bus-in-Ends.ensures.refused c.end_on_bus-in-Ends.ensures.run

pub returns-in_ok-end_on_bus-in-Ends-clause-ends : goal.returns-in_ok-end_on_bus-in-Ends-clause-ends
returns-in_ok-end_on_bus-in-Ends-clause-ends g c ask old told serves =
    let place = c.in_ok-end_on_bus-in-Ends.ensures.place in
    access_ends _ ask old (over g.S.Side.seen c.args.fore.now) (over g.S.Side.seen c.end_on_bus-in-Ends.new.fore) place.0 told _ _ refl
    (subst (λ a. ServesAsk {E = OutOfMemory} ask old (over g.S.Side.seen c.args.fore.now) told c.args.out.now (Ok a)) c.in-Ends.is serves)
    c.in_ok-end_on_bus-in-Ends.ensures.ends place.1 c.end_on_bus-in-Ends.ensures.run c.end_on_bus-in-Ends.ensures.bus
    (ap g.S.Side.seen c.end_on_bus-in-Ends.ensures.side)
