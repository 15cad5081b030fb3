-- A page more.
use Rattle.std.proofs.Common.{◌≡◌, ◌+◌, ◌*◌, ℕ, List, ◌++◌, take, ap, sym, ◌∙◌, arith, take-add}
use Rattle.mem_versions.proofs.pages.Pages.copied.Goals as goal

pub loop-number-preserved : goal.loop-number-preserved
loop-number-preserved c =
    let n = c.loop-number.number in
    let words = c.args.self.now in
    let more : 256 * n + 256 ≡ 256 * (n + 1) = omega arith in
    c.in_ok-extend_from_slice.ensures.items
    ∙ ap (λ (front : List ℕ). front ++ c.page.result.now) c.loop-number.invariant
    ∙ ap (λ (page : List ℕ). take (256 * n) words ++ page) c.page.ensures.words
    ∙ sym (take-add (256 * n) 256 words)
    ∙ ap (λ (k : ℕ). take k words) more
