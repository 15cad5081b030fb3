-- The sum of words, page by page.
use Rattle.std.proofs.Common.{◌≡◌, ℕ, ◌+◌, ◌*◌, List, ◌++◌, take, drop, sum, sym, ap, ◌∙◌, arith}
use Rattle.std.proofs.lemmas.List.{take-append-drop, take-take, drop-take}
use Rattle.std.proofs.lemmas.List.Sums.{sum_by-append}

take-add : (n m : ℕ) (xs : List ℕ) → take (n + m) xs ≡ take n xs ++ take m (drop n xs)
take-add n m xs =
    sym (take-append-drop n (take (n + m) xs))
    ∙ ap (λ (front : List ℕ). front ++ drop n (take (n + m) xs)) (take-take n (n + m) xs (omega arith))
    ∙ ap (λ (back : List ℕ). take n xs ++ back) (drop-take n m xs)

-- one page more
pub sum-more : (words page : List ℕ) (total more n : ℕ) → total ≡ sum (take (256 * n) words) → more ≡ sum page → page ≡ take 256 (drop (256 * n) words)
    → total + more ≡ sum (take (256 * (n + 1)) words)
sum-more words page total more n before this is =
    let next : 256 * n + 256 ≡ 256 * (n + 1) = omega arith in
    ap (λ (k : ℕ). k + more) before
    ∙ ap (λ (k : ℕ). sum (take (256 * n) words) + k) (this ∙ ap sum is)
    ∙ sym (sum_by-append (λ (x : ℕ). x) (take (256 * n) words) (take 256 (drop (256 * n) words)))
    ∙ ap sum (sym (take-add (256 * n) 256 words))
    ∙ ap (λ (k : ℕ). sum (take k words)) next
