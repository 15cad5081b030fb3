use Rattle.std.proofs.Common.{◌∷◌, ap, ◌∙◌}
use Rattle.script_read.specs.code.Cut.{words_left}
use Rattle.script_read.proofs.EventLaws.{not_one}
use Rattle.script_read.proofs.parts.one_word.Goals as goal

pub returns-in-Some : goal.returns-in-Some
returns-in-Some c =
    not_one (words_left c.args.words) c.cut_word-word.result.text.now c.in-Some.field-0.now
    (ap words_left c.in_ok-words.was ∙ c.cut_word-word.ensures ∙ ap (λ rest. c.cut_word-word.result.text.now ∷ words_left rest) c.in-Some.is)
