use Rattle.std.proofs.Common.{ap, arith, subst, sym, ◌∙◌}
use Rattle.foreground.specs.Fore.{ForeOf, over}
use Rattle.machine.specs.Machine.{machine_over}
use Rattle.clock_loop.specs.code.Quiet.{HasPassed}
use Rattle.clock_loop.proofs.FetchLaws.{fetches_now}
use Rattle.clock_loop.proofs.QuietLaws.{passes_none}
use Rattle.clock_loop.proofs.fetches.pass_fetches.Goals as goal

pub returns-then-not-is_nothing-clause-passed : goal.returns-then-not-is_nothing-clause-passed
returns-then-not-is_nothing-clause-passed g c =
    subst (λ f. HasPassed c.args.limit (over g.S.Side.seen c.args.fore.now) f) (sym (ap (over g.S.Side.seen) c.fore.view_is))
    (passes_none (over g.S.Side.seen c.args.fore.now) c.args.limit c.requires.before)

pub returns-then-clocks-eq0-clause-passed : goal.returns-then-clocks-eq0-clause-passed
returns-then-clocks-eq0-clause-passed g c =
    subst (λ f. HasPassed c.args.limit (over g.S.Side.seen c.args.fore.now) f) (sym (ap (over g.S.Side.seen) c.fore.view_is))
    (passes_none (over g.S.Side.seen c.args.fore.now) c.args.limit c.requires.before)

pub returns-in-Ok-clause-passed : goal.returns-in-Ok-clause-passed
returns-in-Ok-clause-passed g c =
    fetches_now (over g.S.Side.seen c.args.fore.now) _ _ _ c.args.limit c.fetch_clocks-clocks.result c.requires.underway.0 c.requires.underway.1
    (ap (over g.S.Side.seen) c.fore.view_is) c.requires.underway.2 c.requires.running c.requires.open (omega (arith, c.if-clocks-eq0.false))
    (record {
      inner = c.requires.inner;
      last = omega (arith, c.requires.line, c.fetch_clocks-clocks.ensures.most);
      side = ap (λ (f : ForeOf _). g.S.Side.seen f.machine.side) (sym c.fore.view_is) ∙ c.is_nothing.ensures c.if-not-is_nothing.false;
      due = λ k low. c.requires.due k (omega (arith, low, c.fetch_clocks-clocks.ensures.most));
    })
    c.fetch_clocks-clocks.ensures.begun (c.fetch_clocks-clocks.ensures.rest (omega (arith, c.if-clocks-eq0.false)))
    c.in-Ok.ensures.machine.chips (ap (machine_over g.S.Side.seen) c.in-Ok.ensures.machine.same)
    (omega (arith, c.requires.limit, c.fetch_clocks-clocks.ensures.most)) c.in-Ok.ensures.log
