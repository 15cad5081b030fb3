-- The lines are of the clocks that were gone to.
use Rattle.std.proofs.Common.{ap, ◌∙◌}
use Rattle.std.proofs.lemmas.Result.{IfOk-weaker}
use Rattle.std.specs.List.{flat_map}
use Rattle.ocs_run.specs.RewindText.{line_of}
use Rattle.ocs_run.proofs.rewind.go_and_tell.Goals as goal

pub returns : goal.returns
returns c =
    IfOk-weaker c.make_lines.result _ _
    (λ text is keep end p present ends. is ∙ ap (λ list. flat_map line_of list)
    (c.deref.ensures.value ∙ c.in_ok-told.ensures keep end p present ends))
    c.make_lines.ensures
