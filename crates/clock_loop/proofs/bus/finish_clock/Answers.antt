use Rattle.std.proofs.Common.{ap}
use Rattle.std.proofs.lemmas.Result.{on_err_weaker}
use Rattle.foreground.specs.Fore.{over}
use Rattle.clock_loop.proofs.ClockLaws.{same_part}
use Rattle.clock_loop.proofs.bus.finish_clock.Goals as goal

pub returns-then-is_err-clause-part : goal.returns-then-is_err-clause-part
returns-then-is_err-clause-part g c =
    on_err_weaker c.access_and_end-finished.result
    (λ told old w asked. same_part old (over g.S.Side.seen c.access_and_end-finished.new.fore) _ _ _ _ _
    (ap (λ f. f.machine.chip.reads) c.fore.view_is) (told old w asked)) c.access_and_end-finished.ensures.part
