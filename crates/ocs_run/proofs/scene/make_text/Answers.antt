use Rattle.std.proofs.Common.{codes, ap, ◌∙◌, ◌++◌}
use Rattle.ocs_run.specs.SceneSummary.{summary_text, number_line}
use Rattle.ocs_run.proofs.SceneLaws.{four_lines}
use Rattle.ocs_run.proofs.scene.make_text.Goals as goal

pub returns : goal.returns
unfolding summary_text
returns c =
    four_lines _ _ _ _ (codes "frames 10\n") _ _ _ c.in_ok-text.ensures.items
    (c.in_ok-put_number.ensures ∙ ap (λ n. c.in_ok-text.text.items ++ number_line (codes "picture ") n) c.sum_of.ensures)
    (c.in_ok-put_number-2.ensures ∙ ap (λ n. c.put_number.new.text.items ++ number_line (codes "trace ") n) c.count_lines.ensures)
    (c.in_ok-put_number-3.ensures ∙ ap (λ n. c.put_number-2.new.text.items ++ number_line (codes "memory ") n) c.sum_of-2.ensures)
