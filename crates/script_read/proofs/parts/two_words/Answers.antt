use Rattle.std.proofs.Common.{◌∷◌, ap, ◌∙◌}
use Rattle.script_read.specs.code.Cut.{words_left}
use Rattle.script_read.proofs.EventLaws.{not_two}
use Rattle.script_read.proofs.parts.two_words.Goals as goal

pub returns-in-Some : goal.returns-in-Some
returns-in-Some c =
    not_two (words_left c.args.words) c.cut_word-first.result.text.now c.cut_word-second.result.text.now c.in-Some.field-0.now
    (ap words_left c.in_ok-words.was ∙ c.cut_word-first.ensures
    ∙ ap (λ rest. c.cut_word-first.result.text.now ∷ words_left rest) c.in_ok-first.was
    ∙ ap (λ words. c.cut_word-first.result.text.now ∷ words) c.cut_word-second.ensures
    ∙ ap (λ rest. c.cut_word-first.result.text.now ∷ c.cut_word-second.result.text.now ∷ words_left rest) c.in-Some.is)
