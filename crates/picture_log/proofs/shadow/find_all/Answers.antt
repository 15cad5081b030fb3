use Rattle.std.proofs.Common.{◌≡◌, ◌<◌, ◌+◌, List, length, set, take, slice_index_or, count_by, ap, ◌∙◌, sym, subst, arith}
use Rattle.std.proofs.lemmas.List.Edits.{map_over_more}
use Rattle.mem_versions.specs.Chip.{ChipValue, after_reads}
use Rattle.mem_versions.specs.MemView.{word_then}
use Rattle.serial_bands.specs.declared.shadow.Filling.{Filling}
use Rattle.serial_bands.specs.Shadows.{IsOfRange, found_filling}
use Rattle.serial_bands.specs.Fetches.{is_fetched_filling}
use Rattle.picture_log.proofs.Fillings.{untouched, range_at, one_if, count_more, reads_twice}
use Rattle.picture_log.proofs.shadow.find_all.Goals as goal

pub find-requires-clause-range : goal.find-requires-clause-range
find-requires-clause-range c =
    let i = c.loop-i.i in
    let view = c.args.view.now in
    let fillings = c.args.fillings.now in
    let d = c.index-fillings-i.result in
    let within : i < length fillings = omega arith in
    let same : d ≡ slice_index_or fillings i d =
    c.index-fillings-i.is
    ∙ ap (λ (l : List Filling). slice_index_or l i d) c.loop-i.invariant.words
    ∙ untouched (found_filling (word_then view)) fillings i d within in
    subst (λ f. IsOfRange view.from view.to f) (sym same) (range_at view.from view.to fillings i d within c.requires.range)

pub find-requires-clause-behind : goal.find-requires-clause-behind
find-requires-clause-behind c = ap (λ (chip : ChipValue). chip.base) c.loop-i.invariant.reads ∙ c.requires.behind

pub loop-i-preserved : goal.loop-i-preserved
loop-i-preserved c =
    let i = c.loop-i.i in
    let fillings = c.args.fillings.now in
    let d = c.index-fillings-i.result in
    let f = found_filling (word_then c.args.view.now) in
    let within : i < length fillings = omega arith in
    let same : d ≡ slice_index_or fillings i d =
    c.index-fillings-i.is
    ∙ ap (λ (l : List Filling). slice_index_or l i d) c.loop-i.invariant.words
    ∙ untouched f fillings i d within in
    let before = count_by is_fetched_filling (take i fillings) in
    record {
      words =
          ap (λ w. set c.loop-i.fillings i w) c.find.ensures.word
          ∙ map_over_more f fillings c.loop-i.fillings i d within c.loop-i.invariant.words c.index-fillings-i.is;
      reads =
          c.find.ensures.reads
          ∙ ap (λ (chip : ChipValue). after_reads chip (one_if (is_fetched_filling d))) c.loop-i.invariant.reads
          ∙ reads_twice c.args.chip.now before (one_if (is_fetched_filling d))
          ∙ ap (λ x. after_reads c.args.chip.now (before + one_if (is_fetched_filling x))) same
          ∙ ap (λ n. after_reads c.args.chip.now n) (sym (count_more is_fetched_filling fillings i d within));
    }
