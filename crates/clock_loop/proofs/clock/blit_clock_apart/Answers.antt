use Rattle.foreground.specs.Fore.{over}
use Rattle.clock_loop.proofs.EndLaws.{can_access_asked, serve_refused, apart_rest}
use Rattle.clock_loop.proofs.clock.blit_clock_apart.Goals as goal

pub blit_apart-requires-clause-can : goal.blit_apart-requires-clause-can
blit_apart-requires-clause-can g c =
    let asked = c.requires.asked in
    (asked.1, can_access_asked _ asked.0 (over g.S.Side.seen c.args.fore.now) asked.1 asked.2 asked.3)

pub returns-in_err-access-clause-ends : goal.returns-in_err-access-clause-ends
returns-in_err-access-clause-ends g c =
    serve_refused _ _ (over g.S.Side.seen c.args.fore.now) (over g.S.Side.seen c.blit_apart.new.fore) _ _ c.from_residual.result c.from_residual.ensures.0
    c.in_err-access.ensures

pub returns-clause-ends : goal.returns-clause-ends
returns-clause-ends g c = c.end_access.ensures.ends _ (over g.S.Side.seen c.args.fore.now) c.args.out.now c.in_ok-access.ensures

pub returns-clause-rest : goal.returns-clause-rest
returns-clause-rest g c =
    apart_rest _ _ (over g.S.Side.seen c.args.fore.now) (over g.S.Side.seen c.blit_apart.new.fore) (over g.S.Side.seen c.end_access.new.fore) _ _ _ _
    c.end_access.result c.in_ok-access.ensures c.end_access.ensures.same c.end_access.ensures.rest
