use Rattle.std.proofs.Common.{◌≡◌, ◌<◌, ◌≤◌, ℕ, ◌++◌, List, length, map, set, take, drop, false, ap, ◌∙◌, sym, arith, add-one, append-nil}
use Rattle.std.proofs.lemmas.List.{take_all, drop_all}
use Rattle.serial_bands.specs.Shadows.{filling_word}
use Rattle.serial_bands.specs.Fetches.{is_fetched_filling}
use Rattle.picture_log.proofs.Fillings.{map_into, none_counted}
use Rattle.picture_log.proofs.shadow.take_words.Goals as goal

pub loop-i-preserved : goal.loop-i-preserved
loop-i-preserved c = λ run.
    let i = c.loop-i.i in
    let fillings = c.args.fillings.now in
    let old = c.args.words.now in
    let d = c.index-fillings-i.result in
    let within : i < length fillings = omega (arith, c.requires.length) in
    let found : is_fetched_filling d ≡ false =
    ap is_fetched_filling c.index-fillings-i.is ∙ none_counted is_fetched_filling fillings i d within c.requires.found in
    ap (λ (l : List ℕ). set l i c.word_of.result) (c.loop-i.invariant run)
    ∙ ap (λ w. set (map (filling_word run) (take i fillings) ++ drop i old) i w)
    (c.word_of.ensures run found ∙ ap (filling_word run) c.index-fillings-i.is)
    ∙ map_into (filling_word run) fillings old i d within c.requires.length
    ∙ ap (λ k. map (filling_word run) (take k fillings) ++ drop k old) (sym (add-one i))

pub returns : goal.returns
returns c = λ run.
    let i = c.loop-i.i in
    let fillings = c.args.fillings.now in
    let old = c.args.words.now in
    let past : length old ≤ i = omega arith in
    let all : length fillings ≤ i = omega (arith, c.requires.length) in
    c.loop-i.invariant run
    ∙ ap (λ l. map (filling_word run) l ++ drop i old) (take_all i fillings all)
    ∙ ap (λ l. map (filling_word run) fillings ++ l) (drop_all i old past)
    ∙ append-nil (map (filling_word run) fillings)
