-- Laws of entries in rising clocks.
use Rattle.std.proofs.Common.{◌≡◌, ℕ, ◌+◌, ◌-◌, ◌<◌, ◌≤◌, true, false, not, nat_lt, List, [], ◌∷◌, ◌++◌, length, All, Some, None, ◌⊎◌, inl, inr}
use Rattle.std.proofs.Common.{take, drop, get_or, sym, subst, arith, length-take, length-drop, slice_get, ◌∙◌}
use Rattle.std.proofs.lemmas.Bool.{cases_lt}
use Rattle.std.proofs.lemmas.Bool.Decides.{nat_tests}
use Rattle.std.proofs.lemmas.List.{get_or-take, get_or-drop, get_or_append_left, get_or_push, length_push}
use Rattle.std.proofs.lemmas.Option.{slice_get-get_or, get_or_from_slice_get, slice_get_cases, slice_get_within, none-some}
use Rattle.ocs_rewind.specs.Ring.{EntryOf, IsRising, IsRing, IsAbove, last_entry, up_to}
use Rattle.ocs_rewind.proofs.FrontLaws.{filter-front}

pub rising-drop : {T : Type 0} (n : ℕ) (entries : List (EntryOf T)) → IsRising entries → IsRising (drop n entries)
rising-drop n entries rising i j d order within =
    let whole : n + j < length entries = omega (arith, length-drop n entries) in
    rw (get_or-drop n entries i d, get_or-drop n entries j d) (rising (n + i) (n + j) d (omega arith) whole)

pub rising-take : {T : Type 0} (n : ℕ) (entries : List (EntryOf T)) → IsRising entries → IsRising (take n entries)
rising-take n entries rising i j d order within =
    let inside : j < n = omega (arith, length-take n entries) in
    let whole : j < length entries = omega (arith, length-take n entries) in
    let before : i < n = omega arith in
    rw (get_or-take n entries i d before, get_or-take n entries j d inside) (rising i j d order whole)

-- the last of rising entries has the greatest clock
pub greatest : {T : Type 0} (entries : List (EntryOf T)) (n k : ℕ) (d : EntryOf T) → IsRising entries → k ≤ n → n < length entries
    → (get_or entries k d).at.0 ≤ (get_or entries n d).at.0
greatest {T} entries n k d rising order within = by_cases (cases_lt k n)
  where
    by_cases : (k < n) ⊎ (n ≤ k) → (get_or entries k d).at.0 ≤ (get_or entries n d).at.0
    by_cases (inl less) = let low : (get_or entries k d).at.0 < (get_or entries n d).at.0 = rising k n d less within in omega arith
    by_cases (inr le) =
        let same : k ≡ n = omega arith in
        let P : ℕ → Type 0 = λ j. (get_or entries k d).at.0 ≤ (get_or entries j d).at.0 in
        subst P same (omega arith)

-- a clock above the last one is above all
pub below_all : {T : Type 0} (c : ℕ) (entries : List (EntryOf T)) → IsRising entries → IsAbove c (last_entry entries) → All (λ entry. entry.at.0 < c) entries
below_all {T} c entries rising above k d within =
    let is : slice_get entries (length entries - 1) ≡ Some (get_or entries (length entries - 1) d) =
    slice_get-get_or entries (length entries - 1) d (omega arith) in
    let most : (get_or entries (length entries - 1) d).at.0 < c = subst (IsAbove c) is above in
    let low : (get_or entries k d).at.0 ≤ (get_or entries (length entries - 1) d).at.0 =
    greatest entries (length entries - 1) k d rising (omega arith) (omega arith) in
    omega arith

-- with an entry above the last one they rise too
pub rising-more : {T : Type 0} (entries : List (EntryOf T)) (entry : EntryOf T) → IsRising entries → IsAbove entry.at.0 (last_entry entries)
    → IsRising (entries ++ entry ∷ [])
rising-more {T} entries entry rising above i j d order within = by_cases (cases_lt j (length entries))
  where
    below : i < length entries → (get_or (entries ++ entry ∷ []) i d) ≡ get_or entries i d
    below inside = get_or_append_left entries (entry ∷ []) d i inside

    by_cases : (j < length entries) ⊎ (length entries ≤ j) → (get_or (entries ++ entry ∷ []) i d).at.0 < (get_or (entries ++ entry ∷ []) j d).at.0
    by_cases (inl less) = rw (get_or_append_left entries (entry ∷ []) d j less, below (omega arith)) (rising i j d order less)
    by_cases (inr le) =
        let end : length entries ≡ j = omega (arith, length_push entries entry) in
        rw (get_or_push entries entry d j end, below (omega arith)) (below_all entry.at.0 entries rising above i d (omega arith))

-- a ring with one more entry, of which the oldest goes where there are too many
pub ring-pushed : {T : Type 0} (entries : List (EntryOf T)) (keep : ℕ) (entry : EntryOf T) → IsRing entries keep → IsAbove entry.at.0 (last_entry entries)
    → IsRing (drop (length (entries ++ entry ∷ []) - keep) (entries ++ entry ∷ [])) keep
ring-pushed entries keep entry ring above = record {
  rising = rising-drop (length (entries ++ entry ∷ []) - keep) (entries ++ entry ∷ []) (rising-more entries entry ring.rising above);
  few = omega (arith, length-drop (length (entries ++ entry ∷ []) - keep) (entries ++ entry ∷ []));
  some = ring.some;
}

-- the first entries, of which none is above a clock, and behind them the end
pub front_whole : {T : Type 0} (c n : ℕ) (entries : List (EntryOf T)) → ((k : ℕ) (d : EntryOf T) → k < n → k < length entries → (get_or entries k d).at.0 ≤ c)
    → slice_get entries n ≡ None → take n entries ≡ up_to c entries
front_whole {T} c n entries below end =
    filter-front (λ entry. not (nat_lt c entry.at.0)) entries n (λ k d inside within. passes (get_or entries k d).at.0 (below k d inside within))
    (λ k d outside within. beyond (slice_get_cases entries n).1 k d outside within)
  where
    passes : (at : ℕ) → at ≤ c → not (nat_lt c at) ≡ true
    passes at le = grind (arith, nat_tests)

    beyond : ((x : EntryOf T) × (n < length entries) × (slice_get entries n ≡ Some x) × (get_or entries n x ≡ x))
        ⊎ ((length entries ≤ n) × (slice_get entries n ≡ None))
        → (k : ℕ) (d : EntryOf T) → n ≤ k → k < length entries → not (nat_lt c (get_or entries k d).at.0) ≡ false
    beyond (inl is) k d outside within = absurd (none-some is.0 (sym end ∙ is.2))
    beyond (inr past) k d outside within = absurd (omega (arith, past.0))

-- the first entries, of which none is above a clock, and behind them one that is
pub front_ends : {T : Type 0} (c n : ℕ) (entries : List (EntryOf T)) (entry : EntryOf T) → IsRising entries
    → ((k : ℕ) (d : EntryOf T) → k < n → k < length entries → (get_or entries k d).at.0 ≤ c)
    → slice_get entries n ≡ Some entry → c < entry.at.0 → take n entries ≡ up_to c entries
front_ends {T} c n entries entry rising below next above =
    filter-front (λ entry. not (nat_lt c entry.at.0)) entries n (λ k d inside within. passes (get_or entries k d).at.0 (below k d inside within))
    (λ k d outside within.
    let first : (get_or entries n d).at.0 ≤ (get_or entries k d).at.0 = greatest entries k n d rising outside within in
    let is : get_or entries n d ≡ entry = get_or_from_slice_get entries n entry d next in
    let P : EntryOf T → Type 0 = λ e. e.at.0 ≤ (get_or entries k d).at.0 in
    let high : entry.at.0 ≤ (get_or entries k d).at.0 = subst P is first in
    fails (get_or entries k d).at.0 (omega arith))
  where
    passes : (at : ℕ) → at ≤ c → not (nat_lt c at) ≡ true
    passes at le = grind (arith, nat_tests)

    fails : (at : ℕ) → c < at → not (nat_lt c at) ≡ false
    fails at lt = grind (arith, nat_tests)

-- of the entries up to a clock the last has the greatest clock
pub latest : {T : Type 0} (c n : ℕ) (entries : List (EntryOf T)) (entry : EntryOf T) → IsRising entries → take (n + 1) entries ≡ up_to c entries
    → slice_get entries n ≡ Some entry → All (λ e. e.at.0 ≤ entry.at.0) (up_to c entries)
latest {T} c n entries entry rising front is =
    subst (λ (list : List (EntryOf T)). All (λ e. e.at.0 ≤ entry.at.0) list) front
    (λ k d within.
    let inside : k < n + 1 = omega (arith, length-take (n + 1) entries) in
    let whole : n < length entries = slice_get_within entries n entry is in
    let low : (get_or entries k d).at.0 ≤ (get_or entries n d).at.0 = greatest entries n k d rising (omega arith) whole in
    let here : get_or entries n d ≡ entry = get_or_from_slice_get entries n entry d is in
    let P : EntryOf T → Type 0 = λ e. (get_or entries k d).at.0 ≤ e.at.0 in
    let Q : EntryOf T → Type 0 = λ e. e.at.0 ≤ entry.at.0 in
    subst Q (sym (get_or-take (n + 1) entries k d inside)) (subst P here low))
