-- A turn adds a page and counts its words.
use Rattle.std.proofs.Common.{ℕ, ◌≡◌, ◌*◌, List, take, drop, ap, ◌∙◌, arith}
use Rattle.out_files.proofs.WordsLaws.{reads-more, words-read}
use Rattle.foreground.proofs.SumLaws.{sum-more}
use Rattle.foreground.proofs.memory_sum.sum_of.Goals as goal

pub loop-number-preserved : goal.loop-number-preserved
loop-number-preserved c =
    let n = c.loop-number.number in
    let first = c.args.chip.now in
    let now = c.loop-number.chip in
    let same : now.words ≡ first.words = words-read first now n c.loop-number.invariant.first c.loop-number.invariant.counted in
    record {
      total =
          sum-more first.words c.page.result.now c.loop-number.total c.sum_of_page-total.result n c.loop-number.invariant.total
          c.sum_of_page-total.ensures.total
          (c.page.ensures.words ∙ ap (λ (words : List ℕ). take 256 (drop (256 * n) words)) same);
      most = omega (arith, c.loop-number.invariant.most, c.sum_of_page-total.ensures.most);
      first = λ none. absurd (omega arith);
      counted = λ some. reads-more first now c.page.follows.lender-at-none n c.loop-number.invariant.first c.loop-number.invariant.counted
          c.page.follows.holds-at-none;
    }
