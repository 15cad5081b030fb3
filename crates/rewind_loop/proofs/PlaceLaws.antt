-- Places of a run, by clocks alone.
use Rattle.std.proofs.Common.{◌≡◌, ℕ, zero, suc, ◌+◌, ◌-◌, ◌<◌, ◌≤◌, Bool, true, false, not, nat_lt, nat_le, ◌⊎◌, inl, inr, List, Option, Some, None}
use Rattle.std.proofs.Common.{◌&&◌, length, if◌then◌else◌, refl, sym, ap, ◌∙◌, arith, subst}
use Rattle.std.proofs.lemmas.Bool.{cases_lt}
use Rattle.std.proofs.lemmas.Bool.Decides.{nat_tests}
use Rattle.std.proofs.lemmas.List.Elements.{filter_passes}
use Rattle.std.proofs.lemmas.Option.{slice_get_within, get_or_from_slice_get}
use Rattle.rewind_loop.specs.Places.{Place, is_that, last_of, with_clock, clocks_to, back_to, reached_from, visited, visited_from}

-- ---- from where a clock is reached

pub reached_here : (c : ℕ) (p : Place) → p.now ≤ c → reached_from c p ≡ p
reached_here c p low =
    ap (λ b. if b then p else back_to c p.ring (last_of (clocks_to c p.ring))) (is_low p.now low)
  where
    is_low : (now : ℕ) → now ≤ c → nat_le now c ≡ true
    is_low now low = grind (arith, nat_tests)

pub reached_back : (c : ℕ) (p : Place) → c < p.now → reached_from c p ≡ back_to c p.ring (last_of (clocks_to c p.ring))
reached_back c p high =
    ap (λ b. if b then p else back_to c p.ring (last_of (clocks_to c p.ring))) (is_high p.now high)
  where
    is_high : (now : ℕ) → c < now → nat_le now c ≡ false
    is_high now high = grind (arith, nat_tests)

best_low : (c : ℕ) (ring : List ℕ) (best : ℕ) → last_of (clocks_to c ring) ≡ Some best → best ≤ c
best_low c ring best is =
    let clocks : List ℕ = clocks_to c ring in
    let passes : not (nat_lt c best) ≡ true =
    subst (λ d. not (nat_lt c d) ≡ true) (get_or_from_slice_get clocks (length clocks - 1) best best is)
    (filter_passes (λ d. not (nat_lt c d)) ring (length clocks - 1) best (slice_get_within clocks (length clocks - 1) best is)) in
    low best passes
  where
    low : (d : ℕ) → not (nat_lt c d) ≡ true → d ≤ c
    low d passes = grind (arith, nat_tests)

-- it is never above the clock
pub reached_low : (c : ℕ) (p : Place) → (reached_from c p).now ≤ c
reached_low c p = by_order (cases_lt c p.now)
  where
    by_best : (best : Option ℕ) → last_of (clocks_to c p.ring) ≡ best → (back_to c p.ring best).now ≤ c
    by_best None is = omega arith
    by_best (Some best) is = best_low c p.ring best is

    by_order : (c < p.now) ⊎ (p.now ≤ c) → (reached_from c p).now ≤ c
    by_order (inr low) = subst (λ (q : Place). q.now ≤ c) (sym (reached_here c p low)) low
    by_order (inl high) = subst (λ (q : Place). q.now ≤ c) (sym (reached_back c p high)) (by_best (last_of (clocks_to c p.ring)) refl)

-- ---- visits of clocks in a row

pub first_visit : (due : ℕ → Bool) (keep from to : ℕ) (ring : List ℕ) → to ≡ from
    → visited_from due keep from (to - from + 1) ring ≡ visited due keep from ring
first_visit due keep from to ring here =
    let one : to - from + 1 ≡ suc zero = omega (arith, here) in
    let at : from + zero ≡ from = omega arith in
    ap (λ n. visited_from due keep from n ring) one ∙ ap (λ c. visited due keep c ring) at

-- clocks at which none is due change nothing
none_visited : (due : ℕ → Bool) (keep from count n all : ℕ) (ring : List ℕ) → all ≡ n + count
    → ((k : ℕ) → count ≤ k → k < all → due (from + k) ≡ false) → visited_from due keep from all ring ≡ visited_from due keep from count ring
none_visited due keep from count zero all ring is none =
    let same : all ≡ count = omega (arith, is) in
    ap (λ m. visited_from due keep from m ring) same
none_visited due keep from count (suc n) zero ring is none = absurd (omega (arith, is))
none_visited due keep from count (suc n) (suc all) ring is none =
    let before : List ℕ = visited_from due keep from all ring in
    ap (λ d. if d && not (is_that (from + all) (last_of before)) then with_clock keep (from + all) before else before)
    (none all (omega (arith, is)) (omega arith))
    ∙ none_visited due keep from count n all ring (omega (arith, is)) (λ k low high. none k low (omega (arith, high)))

pub later_visit : (due : ℕ → Bool) (keep from to later : ℕ) (ring : List ℕ) → from ≤ to → to < later
    → ((k : ℕ) → to < k → k < later → due k ≡ false)
    → visited_from due keep from (later - from + 1) ring ≡ visited due keep later (visited_from due keep from (to - from + 1) ring)
later_visit due keep from to later ring on less none =
    let count : ℕ = to - from + 1 in
    let all : ℕ = later - from in
    let more : later - from + 1 ≡ suc all = omega arith in
    let at : from + all ≡ later = omega (arith, on, less) in
    ap (λ m. visited_from due keep from m ring) more
    ∙ ap (λ c. visited due keep c (visited_from due keep from all ring)) at
    ∙ ap (λ before. visited due keep later before)
    (none_visited due keep from count (later - to - 1) all ring (omega (arith, on, less))
    (λ k low high. none (from + k) (omega (arith, on, low)) (omega (arith, on, less, high))))
