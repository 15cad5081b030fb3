-- Rings of checkpoints and their clocks.
use Rattle.std.proofs.Common.{◌≡◌, ℕ, ◌-◌, ◌<◌, ◌≤◌, Bool, true, false, cond, not, nat_lt, ◌==◌, ◌&&◌, if◌then◌else◌, List, [], ◌∷◌, ◌++◌}
use Rattle.std.proofs.Common.{length, map, drop, All, Option, Some, None, slice_get, get_or, refl, sym, ap, ◌∙◌, arith, subst}
use Rattle.std.specs.Option.{option_map}
use Rattle.std.proofs.lemmas.Bool.Decides.{nat_tests}
use Rattle.std.proofs.lemmas.List.{map-append, drop-map, length-map}
use Rattle.std.proofs.lemmas.Option.{slice_get-map, slice_get_within, get_or_from_slice_get}
use Rattle.ocs_rewind.specs.Ring.{RingOf, EntryOf, up_to, last_entry, pushed, IsAbove}
use Rattle.ocs_rewind.proofs.FrontLaws.{filter-all}
use Rattle.rewind_loop.specs.Places.{is_that, last_of, with_clock, visited, clocks_to}
use Rattle.rewind_loop.specs.Present.{Checkpoint, clock_of}

-- ---- what is done to a ring is done to its clocks

pub last_clock : (entries : List (EntryOf Checkpoint)) → last_of (map clock_of entries) ≡ option_map clock_of (last_entry entries)
last_clock entries =
    ap (λ n. slice_get (map clock_of entries) (n - 1)) (length-map entries clock_of)
    ∙ slice_get-map clock_of entries (length entries - 1)

pub pushed_clocks : (ring : RingOf Checkpoint) (entry : EntryOf Checkpoint)
    → map clock_of (pushed entry ring).entries ≡ with_clock ring.keep (clock_of entry) (map clock_of ring.entries)
pushed_clocks ring entry =
    let all : List (EntryOf Checkpoint) = ring.entries ++ entry ∷ [] in
    sym (drop-map clock_of (length all - ring.keep) all)
    ∙ ap (λ n. drop (n - ring.keep) (map clock_of all)) (sym (length-map all clock_of))
    ∙ ap (λ clocks. drop (length clocks - ring.keep) clocks) (map-append clock_of ring.entries (entry ∷ []))

map-cond : (b : Bool) (x : EntryOf Checkpoint) (xs : List (EntryOf Checkpoint))
    → map clock_of (cond b (x ∷ xs) xs) ≡ cond b (clock_of x ∷ map clock_of xs) (map clock_of xs)
map-cond true x xs = refl
map-cond false x xs = refl

pub clocks_up_to : (c : ℕ) (entries : List (EntryOf Checkpoint)) → map clock_of (up_to c entries) ≡ clocks_to c (map clock_of entries)
clocks_up_to c [] = refl
clocks_up_to c (entry ∷ entries) =
    map-cond (not (nat_lt c (clock_of entry))) entry (up_to c entries)
    ∙ ap (λ clocks. cond (not (nat_lt c (clock_of entry))) (clock_of entry ∷ clocks) clocks) (clocks_up_to c entries)

-- ---- the last entry

-- where none is above a clock, all are up to it
pub up_to_all : (c : ℕ) (entries : List (EntryOf Checkpoint)) → All (λ entry. clock_of entry ≤ c) entries → up_to c entries ≡ entries
up_to_all c entries below =
    filter-all (λ entry. not (nat_lt c entry.at.0)) entries (λ k d within. passes (get_or entries k d).at.0 (below k d within))
  where
    passes : (at : ℕ) → at ≤ c → not (nat_lt c at) ≡ true
    passes at le = grind (arith, nat_tests)

-- what is true of all is true of the last
pub last_holds : (P : EntryOf Checkpoint → Type 0) (entries : List (EntryOf Checkpoint)) (entry : EntryOf Checkpoint) → All P entries
    → last_entry entries ≡ Some entry → P entry
last_holds P entries entry each is =
    subst P (get_or_from_slice_get entries (length entries - 1) entry entry is)
    (each (length entries - 1) entry (slice_get_within entries (length entries - 1) entry is))

-- a clock up to which all are, and which is not the last one's, is above that
pub above_last : (c : ℕ) (entries : List (EntryOf Checkpoint)) (last : Option (EntryOf Checkpoint)) → All (λ entry. clock_of entry ≤ c) entries
    → last_entry entries ≡ last → is_that c (option_map clock_of last) ≡ false → IsAbove c last
above_last c entries None below is other = tt
above_last c entries (Some entry) below is other =
    let low : clock_of entry ≤ c = last_holds (λ e. clock_of e ≤ c) entries entry below is in
    strictly (clock_of entry) low other
  where
    strictly : (at : ℕ) → at ≤ c → (at == c) ≡ false → at < c
    strictly at low other = grind (arith, nat_tests)

-- ---- visits

pub visited_none : (due : ℕ → Bool) (keep c : ℕ) (ring : List ℕ) → due c ≡ false → visited due keep c ring ≡ ring
visited_none due keep c ring none = ap (λ b. if b && not (is_that c (last_of ring)) then with_clock keep c ring else ring) none

pub visited_again : (due : ℕ → Bool) (keep c : ℕ) (ring : List ℕ) → is_that c (last_of ring) ≡ true → visited due keep c ring ≡ ring
visited_again due keep c ring again =
    ap (λ b. if due c && not b then with_clock keep c ring else ring) again ∙ neither (due c)
  where
    neither : (b : Bool) → (if b && false then with_clock keep c ring else ring) ≡ ring
    neither true = refl
    neither false = refl

pub visited_first : (due : ℕ → Bool) (keep c : ℕ) (ring : List ℕ) → due c ≡ true → is_that c (last_of ring) ≡ false
    → visited due keep c ring ≡ with_clock keep c ring
visited_first due keep c ring here other =
    ap (λ b. if b && not (is_that c (last_of ring)) then with_clock keep c ring else ring) here
    ∙ ap (λ b. if true && not b then with_clock keep c ring else ring) other
