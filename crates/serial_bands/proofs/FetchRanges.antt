-- The clocks of the fetches of a shadow.
use Rattle.std.proofs.Common.{◌≤◌, ℕ, zero, suc, ◌+◌, ◌-◌, ◌/◌, ◌%◌, Bool, true, false, ◌==◌, if◌then◌else◌, List, [], ◌∷◌, map, Some, None, arith, slice_set}
use Rattle.ocs_base.specs.declared.addr.Addr.{Addr}
use Rattle.serial_model.specs.declared.picture.Touch.{Touch}
use Rattle.serial_model.specs.declared.picture.Touch.TheVariants as T
use Rattle.serial_model.specs.Picture.{is_latch, is_sprite, is_colour}
use Rattle.serial_bands.specs.declared.shadow.Filling.{Filling}
use Rattle.serial_bands.specs.declared.shadow.Filling.TheVariants.{Word, Fetched}
use Rattle.serial_bands.specs.declared.shadow.Shadow.{Shadow}
use Rattle.serial_bands.specs.Clock.{sets_at, due_at}
use Rattle.serial_bands.specs.RightJob.{clock_of}
use Rattle.serial_bands.specs.Shadows.{IsOfRange, AreOfRange, found_filling, set_shadow, set_shadow_sprite, fetch_shadow_sprite, touch_shadow_in_order}
use Rattle.serial_bands.specs.Fetches.{IsInRangeOf, RangeOfPicture, RangeOfFound, RangeOfSets, RangeOfTouch, ShadowFoundIn}
use Rattle.serial_bands.proofs.Reading.{AreSets, are_sets}
use Rattle.serial_bands.proofs.Shading.{shadow_found}

-- words are of each range
all_words : (from to : ℕ) (words : List ℕ) → AreOfRange from to (map (λ word. Word word) words)
all_words from to [] = tt
all_words from to (word ∷ words) = (tt, all_words from to words)

one_found : (from to : ℕ) (word_found : ℕ → Addr → ℕ) (filling : Filling) → IsOfRange from to (found_filling word_found filling)
one_found from to word_found (Word word) = tt
one_found from to word_found (Fetched at addr) = tt

all_found : (from to : ℕ) (word_found : ℕ → Addr → ℕ) (fillings : List Filling) → AreOfRange from to (map (found_filling word_found) fillings)
all_found from to word_found [] = tt
all_found from to word_found (filling ∷ fillings) = (one_found from to word_found filling, all_found from to word_found fillings)

pub range_of_picture : RangeOfPicture
range_of_picture from to p = record {
  latches = all_words from to p.latches;
  words_a = all_words from to p.words_a;
  words_b = all_words from to p.words_b;
}

pub range_of_found : RangeOfFound
range_of_found from to word_found s = record {
  latches = all_found from to word_found s.latches;
  words_a = all_found from to word_found s.words_a;
  words_b = all_found from to word_found s.words_b;
}

pub shadow_found_in : ShadowFoundIn
shadow_found_in run from to word_found s p has range is =
    shadow_found run from to word_found s p has range.latches range.words_a range.words_b is

-- a range that ends a clock later
one_later : (from c : ℕ) (filling : Filling) → IsOfRange from c filling → IsOfRange from (c + 1) filling
one_later from c (Word word) range = tt
one_later from c (Fetched at addr) range = (range.0, omega (arith, range.1))

all_later : (from c : ℕ) (fillings : List Filling) → AreOfRange from c fillings → AreOfRange from (c + 1) fillings
all_later from c [] range = tt
all_later from c (filling ∷ fillings) range = (one_later from c filling range.0, all_later from c fillings range.1)

later : (from c : ℕ) (s : Shadow) → IsInRangeOf from c s → IsInRangeOf from (c + 1) s
later from c s range = record {
  latches = all_later from c s.latches range.latches;
  words_a = all_later from c s.words_a range.words_a;
  words_b = all_later from c s.words_b range.words_b;
}

-- one filling more
one_set : (from to : ℕ) (fillings : List Filling) (i : ℕ) (filling : Filling) → AreOfRange from to fillings → IsOfRange from to filling
    → AreOfRange from to (slice_set fillings i filling)
one_set from to [] i filling range one = tt
one_set from to (first ∷ fillings) zero filling range one = (one, range.1)
one_set from to (first ∷ fillings) (suc i) filling range one = (range.0, one_set from to fillings i filling range.1 one)

latch_set : (from to i : ℕ) (filling : Filling) (s : Shadow) → IsOfRange from to filling → IsInRangeOf from to s
    → IsInRangeOf from to (record s { latches = slice_set s.latches i filling })
latch_set from to i filling s one range = record {
  latches = one_set from to s.latches i filling range.latches one;
  words_a = range.words_a;
  words_b = range.words_b;
}

-- controls alone
controlled : (from to : ℕ) (t : Shadow) → AreOfRange from to t.latches → AreOfRange from to t.words_a → AreOfRange from to t.words_b
    → IsInRangeOf from to t
controlled from to t latches words_a words_b = record { latches = latches; words_a = words_a; words_b = words_b }

either : {A : Type 0} (P : A → Type 0) (b : Bool) (x y : A) → P x → P y → P (if b then x else y)
either P true x y first second = first
either P false x y first second = second

written_sprite : (from to n which word : ℕ) (s : Shadow) → IsInRangeOf from to s → IsInRangeOf from to (set_shadow_sprite n which word s)
written_sprite from to n which word s range =
    let P : Shadow → Type 0 = IsInRangeOf from to in
    either P (which == 0) _ _ (controlled from to _ range.latches range.words_a range.words_b)
    (either P (which == 2) _ _ (controlled from to _ range.latches range.words_a range.words_b)
    (either P (which == 4) _ _
    (record {
      latches = range.latches;
      words_a = one_set from to s.words_a n (Word word) range.words_a tt;
      words_b = range.words_b;
    })
    (record {
      latches = range.latches;
      words_a = range.words_a;
      words_b = one_set from to s.words_b n (Word word) range.words_b tt;
    })))

written : (from to offset word : ℕ) (s : Shadow) → IsInRangeOf from to s → IsInRangeOf from to (set_shadow offset word s)
unfolding set_shadow
written from to offset word s range =
    let P : Shadow → Type 0 = IsInRangeOf from to in
    either P (offset == 0x08e) _ _ (controlled from to _ range.latches range.words_a range.words_b)
    (either P (offset == 0x090) _ _ (controlled from to _ range.latches range.words_a range.words_b)
    (either P (offset == 0x098) _ _ (controlled from to _ range.latches range.words_a range.words_b)
    (either P (offset == 0x100) _ _ (controlled from to _ range.latches range.words_a range.words_b)
    (either P (offset == 0x102) _ _ (controlled from to _ range.latches range.words_a range.words_b)
    (either P (offset == 0x104) _ _ (controlled from to _ range.latches range.words_a range.words_b)
    (either P (offset == 0x110) _ _ (latch_set from to 0 (Word word) s tt range)
    (either P (is_latch offset) _ _ (latch_set from to ((offset - 0x110) / 2) (Word word) s tt range)
    (either P (is_sprite offset) _ _ (written_sprite from to ((offset - 0x140) / 8) ((offset - 0x140) % 8) word s range)
    (either P (is_colour offset) _ _ (controlled from to _ range.latches range.words_a range.words_b)
    range)))))))))

in_order : (from to c : ℕ) (touches : List Touch) (s : Shadow) → AreSets touches → IsInRangeOf from to s
    → IsInRangeOf from to (touch_shadow_in_order c touches s)
unfolding touch_shadow_in_order
in_order from to c [] s sets range = range
in_order from to c (T.Set reg word ∷ touches) s sets range =
    in_order from to c touches (set_shadow reg.offset word s) sets.1 (written from to reg.offset word s range)
in_order from to c (T.Plane plane at ∷ touches) s sets range = absurd sets.0
in_order from to c (T.Sprite sprite second at ∷ touches) s sets range = absurd sets.0

pub range_of_sets : RangeOfSets
range_of_sets run from c s range = in_order from (c + 1) c (sets_at run c) s (are_sets (due_at run c)) (later from c s range)

-- a fetch of this clock
this_clock : (from c : ℕ) (addr : Addr) → from ≤ c → IsOfRange from (c + 1) (Fetched (clock_of c) addr)
this_clock from c addr order = (order, omega arith)

fetched_sprite : (from to sprite : ℕ) (second : Bool) (filling : Filling) (s : Shadow) → IsOfRange from to filling → IsInRangeOf from to s
    → IsInRangeOf from to (fetch_shadow_sprite sprite second filling s)
fetched_sprite from to sprite false filling s one range = record {
  latches = range.latches;
  words_a = one_set from to s.words_a sprite filling range.words_a one;
  words_b = range.words_b;
}
fetched_sprite from to sprite true filling s one range = record {
  latches = range.latches;
  words_a = range.words_a;
  words_b = one_set from to s.words_b sprite filling range.words_b one;
}

pub range_of_touch : RangeOfTouch
range_of_touch from c None s order range = range
range_of_touch from c (Some (T.Set reg word)) s order range = written from (c + 1) reg.offset word s range
range_of_touch from c (Some (T.Plane plane at)) s order range =
    latch_set from (c + 1) (plane - 1) (Fetched (clock_of c) at) s (this_clock from c at order) range
range_of_touch from c (Some (T.Sprite sprite second at)) s order range =
    fetched_sprite from (c + 1) sprite second (Fetched (clock_of c) at) s (this_clock from c at order) range
