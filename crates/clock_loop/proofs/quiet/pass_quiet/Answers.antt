use Rattle.std.proofs.Common.{subst, sym}
use Rattle.foreground.specs.Fore.{over}
use Rattle.clock_loop.specs.code.Quiet.{HasPassed}
use Rattle.clock_loop.proofs.QuietLaws.{passes_none}
use Rattle.clock_loop.proofs.quiet.pass_quiet.Goals as goal

pub returns-then-not-due-clause-passed : goal.returns-then-not-due-clause-passed
returns-then-not-due-clause-passed g c = passes_none (over g.S.Side.seen c.args.fore.now) c.args.limit c.requires.before

pub returns-then-is_busy-clause-passed : goal.returns-then-is_busy-clause-passed
returns-then-is_busy-clause-passed g c =
    subst (λ f. HasPassed c.args.limit (over g.S.Side.seen c.args.fore.now) (over g.S.Side.seen f)) (sym c.pause_with_side.ensures)
    (passes_none (over g.S.Side.seen c.args.fore.now) c.args.limit c.requires.before)
