-- A turn appends a page and counts its words.
use Rattle.std.proofs.Common.{rules, ◌≡◌, ℕ, ◌*◌, List, take, drop, sym, ap, ◌∙◌, refl, arith}
use Rattle.std.proofs.lemmas.List.{append-nil}
use Rattle.mem_versions.specs.Chip.{after_reads}
use Rattle.serial_model.specs.MemoryText.{memory_text}
use Rattle.out_files.proofs.WordsLaws.{page-more, reads-more, words-read}
use Rattle.out_files.proofs.words.put_memory.Goals as goal

pub loop-number-init : goal.loop-number-init
unfolding memory_text
loop-number-init c =
    record { text = sym (append-nil c.args.text.now.items); first = λ none. refl; counted = λ some. absurd (omega arith) }

pub loop-number-preserved : goal.loop-number-preserved
loop-number-preserved c =
    let n = c.loop-number.number in
    let first = c.args.chip.now in
    let now = c.loop-number.chip in
    let same : now.words ≡ first.words = words-read first now n c.loop-number.invariant.first c.loop-number.invariant.counted in
    record {
      text =
          page-more c.args.text.now.items c.loop-number.text.items c.put_words.new.text.items c.page.result.now first.words n c.in_ok-put_words.ensures
          (c.page.ensures.words ∙ ap (λ (words : List ℕ). take 256 (drop (256 * n) words)) same) c.loop-number.invariant.text;
      first = λ none. absurd (omega arith);
      counted = λ some. reads-more first now c.page.follows.lender-at-none n c.loop-number.invariant.first c.loop-number.invariant.counted
          c.page.follows.holds-at-none;
    }

pub returns-clause-chip : goal.returns-clause-chip
returns-clause-chip c =
    let count : c.loop-number.chip ≡ after_reads c.args.chip.now (256 * c.pages-number-end.result) = search rules in
    count ∙ ap (λ n. after_reads c.args.chip.now n) (sym c.pages-number-end.ensures.size)
