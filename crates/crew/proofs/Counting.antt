-- The bands of hands that were joined are counted.
use Rattle.std.proofs.Common.{◌≡◌, ℕ, ◌+◌, ◌^◌, ◌≤◌, List, [], ◌∷◌, ◌++◌, length, sym, subst, arith, length-append}
use Rattle.band_board.specs.declared.view.View.{View}
use Rattle.band_board.specs.View.{after_join}
use Rattle.band_board.specs.Steps.{band_count, IsAllIn, HoldsEachOnce}
use Rattle.band_board.proofs.Counted.{band_count-each_once}
use Rattle.crew.specs.code.Totals.{IsCounted, AreTotals}

band_count-more : (joined : List (ℕ × List ℕ)) (hand : ℕ) (done : List ℕ) → band_count (joined ++ (hand, done) ∷ []) ≡ band_count joined + length done
band_count-more [] hand done = omega arith
band_count-more (x ∷ xs) hand done = let rest = band_count-more xs hand done in omega arith

-- one more hand was joined
pub counted_more : {R : Type 0} (by_hands count : ℕ) (v w own : View R) → IsCounted by_hands v.joined → count ≡ length own.done → count ≤ 2 ^ 32
    → w ≡ after_join v own → IsCounted (by_hands + count) w.joined
counted_more {R} by_hands count v w own counted is most joins =
    subst (λ (x : View R). IsCounted (by_hands + count) x.joined) (sym joins)
    (let sum = counted.sum in
    let before = counted.most in
    let more = band_count-more v.joined own.hand own.done in
    let longer : ◌≡◌ {A = ℕ} (length (v.joined ++ (own.hand, own.done) ∷ [])) (length v.joined + 1) = length-append v.joined ((own.hand, own.done) ∷ []) in
    record { sum = omega arith; most = omega arith })

-- the totals of the workers' hands and of the last
pub are_totals : {R : Type 0} (by_hands by_front : ℕ) (v w own : View R) → IsCounted by_hands v.joined → by_front ≡ length own.done → w ≡ after_join v own
    → (IsAllIn w → HoldsEachOnce w.published w.joined) → AreTotals v own by_hands by_front
are_totals {R} by_hands by_front v w own counted is joins all =
    let each : IsAllIn (after_join v own) → HoldsEachOnce v.published (after_join v own).joined =
    subst (λ (x : View R). IsAllIn x → HoldsEachOnce x.published x.joined) joins all in
    record {
      workers = counted.sum;
      crew = is;
      once = each;
      sum = λ (in_all : IsAllIn (after_join v own)).
          let sum = counted.sum in
          let more = band_count-more v.joined own.hand own.done in
          let whole = band_count-each_once v.published (after_join v own).joined (each in_all) in
          omega arith;
    }
