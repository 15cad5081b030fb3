use Rattle.std.specs.Arc.{arc_value}
use Rattle.std.proofs.lemmas.Result.{IfOk-weaker}
use Rattle.crew.proofs.Hiring.{crew_with}
use Rattle.crew.proofs.start.new_crew.Goals as goal

pub returns : goal.returns
returns g c =
    IfOk-weaker _ _ _ (λ made. crew_with (arc_value c.args.run) _ made.0 made.1.items c.args.workers c.in_ok-board.ensures.view) c.hire_crew.ensures
