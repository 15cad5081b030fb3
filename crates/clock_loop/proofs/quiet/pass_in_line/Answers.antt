use Rattle.std.proofs.Common.{ap, arith}
use Rattle.foreground.specs.Fore.{over}
use Rattle.machine.specs.Machine.{machine_over}
use Rattle.clock_loop.proofs.QuietLaws.{passes_now}
use Rattle.clock_loop.proofs.quiet.pass_in_line.Goals as goal

pub returns-in-Ok-clause-passed : goal.returns-in-Ok-clause-passed
returns-in-Ok-clause-passed g c =
    passes_now (over g.S.Side.seen c.args.fore.now) _ _ _ c.args.limit c.pass_quiet-passed.result c.requires.underway.0 c.requires.underway.1
    (ap (over g.S.Side.seen) c.fore.view_is) c.requires.underway.2 c.requires.running c.requires.open (omega (arith, c.if-passed-eq0.false))
    (c.pass_quiet-passed.ensures.passes (omega (arith, c.if-passed-eq0.false)))
    (λ k low. c.most_clocks-most.ensures.due k (omega (arith, low, c.pass_quiet-passed.ensures.most)))
    (ap (machine_over g.S.Side.seen) c.pass_quiet-passed.ensures.same)
    (omega (arith, c.most_clocks-most.ensures.limit, c.pass_quiet-passed.ensures.most)) c.in-Ok.ensures
