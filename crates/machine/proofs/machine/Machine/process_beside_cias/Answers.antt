use Rattle.machine.specs.Machine.{machine_over}
use Rattle.std.proofs.Common.{refl, sym, ◌∙◌, Some}
use Rattle.out_files.proofs.GivesLaws.{gives_line}
use Rattle.machine.proofs.StepLaws.{Makes-processed}
use Rattle.machine.proofs.machine.Machine.process_beside_cias.Goals as goal

pub returns-in_ok-line-clause-step : goal.returns-in_ok-line-clause-step
returns-in_ok-line-clause-step g c =
    Makes-processed (machine_over g.S.Side.seen c.args.self.now) _ c.args.out.now _ (Some c.in-Some.level) refl c.process_beside_cias-begins.ensures.chips
    (λ x is. sym c.in-Some.is ∙ c.process_beside_cias-begins.ensures.interrupt x is) (gives_line _ _ _ c.in_ok-line.ensures.ok c.in_ok-line.ensures.together)
