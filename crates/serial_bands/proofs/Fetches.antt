-- The fetches of a shadow, and the events that left them.
use Rattle.std.proofs.Common.{◌≡◌, ◌<◌, ◌≤◌, ℕ, zero, suc, ◌+◌, ◌-◌, ◌/◌, ◌%◌, Bool, true, false, ◌==◌, ◌&&◌, nat_le, if◌then◌else◌, List, [], ◌∷◌, ◌++◌}
use Rattle.std.proofs.Common.{length, map, Option, Some, None, inl, inr, refl, ap, ◌∙◌, sym, subst, arith, slice_index, slice_set, append_assoc, append-nil}
use Rattle.std.specs.List.{sum_by, count_by}
use Rattle.std.proofs.lemmas.Bool.{false≢true, cases_eq, ne_eqb, eqb-true, eqb-false, eq-eqb, leb-true, le-leb, and_parts, and_from}
use Rattle.std.proofs.lemmas.List.{length-map, length-set, get_or-set_same, get_or-set_other}
use Rattle.std.proofs.lemmas.List.Sums.{sum_by-cons, sum_by-append, sum_by-le-sum_by}
use Rattle.ocs_base.specs.declared.addr.Addr.{Addr}
use Rattle.serial_model.specs.declared.picture.Touch.{Touch}
use Rattle.serial_model.specs.declared.picture.Touch.TheVariants as T
use Rattle.serial_model.specs.Picture.{is_latch, is_sprite, is_colour, plane_latch, sprite_data, all_sprites}
use Rattle.serial_bands.specs.declared.event.Event.{Event}
use Rattle.serial_bands.specs.declared.event.Event.TheVariants as E
use Rattle.serial_bands.specs.declared.shadow.Filling.{Filling}
use Rattle.serial_bands.specs.declared.shadow.Filling.TheVariants.{Word, Fetched}
use Rattle.serial_bands.specs.declared.shadow.Shadow.{Shadow}
use Rattle.serial_bands.specs.Clock.{sets_at, due_at, write_alone}
use Rattle.serial_bands.specs.RightJob.{clock_of, event_at, bus_events}
use Rattle.serial_bands.specs.BusReads.{filled_register, is_fetch, is_fetched, all_planes, word_registers}
use Rattle.serial_bands.specs.Shadows.{found_filling, set_shadow, set_shadow_sprite, fetch_shadow_sprite, touch_shadow_in_order}
use Rattle.serial_bands.specs.Fetches.{is_fetched_filling, fills_fetch, IsLeftBy, LeftOfPicture, LeftOfFound}
use Rattle.serial_bands.specs.Fetches.{LeftBySets, LeftByTouch, TouchInTwo, FewerWithWrite, FetchesAreLatched}
use Rattle.serial_bands.proofs.Ranges.{parted}
use Rattle.serial_bands.proofs.Reading.{AreSets, are_sets}

-- what is no fetch
never : {A : Type 0} → false ≡ true → A
never is = absurd (false≢true is)

no_fetch : {A : Type 0} (b : Bool) → b ≡ false → b ≡ true → A
no_fetch b none is = never (sym none ∙ is)

words_only : (words : List ℕ) (i : ℕ) → fills_fetch i (map (λ word. Word word) words) ≡ false
words_only [] i = refl
words_only (word ∷ words) zero = refl
words_only (word ∷ words) (suc i) = words_only words i

found_is_word : (word_found : ℕ → Addr → ℕ) (filling : Filling) → is_fetched_filling (found_filling word_found filling) ≡ false
found_is_word word_found (Word word) = refl
found_is_word word_found (Fetched at addr) = refl

found_only : (word_found : ℕ → Addr → ℕ) (fillings : List Filling) (i : ℕ) → fills_fetch i (map (found_filling word_found) fillings) ≡ false
found_only word_found [] i = refl
found_only word_found (filling ∷ fillings) zero = found_is_word word_found filling
found_only word_found (filling ∷ fillings) (suc i) = found_only word_found fillings i

pub left_of_picture : LeftOfPicture
left_of_picture p planes first second = record {
  planes = length-map p.latches (λ word. Word word) ∙ planes;
  first = length-map p.words_a (λ word. Word word) ∙ first;
  second = length-map p.words_b (λ word. Word word) ∙ second;
  latches = λ i is. no_fetch (fills_fetch i (map (λ word. Word word) p.latches)) (words_only p.latches i) is;
  words_a = λ i is. no_fetch (fills_fetch i (map (λ word. Word word) p.words_a)) (words_only p.words_a i) is;
  words_b = λ i is. no_fetch (fills_fetch i (map (λ word. Word word) p.words_b)) (words_only p.words_b i) is;
}

pub left_of_found : LeftOfFound
left_of_found word_found events s left = record {
  planes = length-map s.latches (found_filling word_found) ∙ left.planes;
  first = length-map s.words_a (found_filling word_found) ∙ left.first;
  second = length-map s.words_b (found_filling word_found) ∙ left.second;
  latches = λ i is. no_fetch (fills_fetch i (map (found_filling word_found) s.latches)) (found_only word_found s.latches i) is;
  words_a = λ i is. no_fetch (fills_fetch i (map (found_filling word_found) s.words_a)) (found_only word_found s.words_a i) is;
  words_b = λ i is. no_fetch (fills_fetch i (map (found_filling word_found) s.words_b)) (found_only word_found s.words_b i) is;
}

-- a fetch stands within its list
fills_inside : (i : ℕ) (fillings : List Filling) → fills_fetch i fillings ≡ true → i < length fillings
fills_inside i [] is = never is
fills_inside zero (filling ∷ fillings) is = omega arith
fills_inside (suc i) (filling ∷ fillings) is = omega (arith, fills_inside i fillings is)

-- the last of some events
with_last : (register : ℕ) (last : Bool) (events : List Event) (event : Event)
    → is_fetched register last (events ++ event ∷ [])
    ≡ (if filled_register event == register then is_fetch event else is_fetched register last events)
unfolding is_fetched
with_last register last [] event = refl
with_last register last (first ∷ events) event =
    with_last register (if filled_register first == register then is_fetch first else last) events event

-- One list of fillings before and after a register is filled, by a fetch or not, where each filling has a register of its own.
abbrev IsFilledBy : (ℕ → ℕ) → ℕ → ℕ → Bool → List Filling → List Filling → Type 0
IsFilledBy register_of bound register fetch before after =
    (i : ℕ) → i < bound → fills_fetch i after ≡ true → (if register == register_of i then fetch else fills_fetch i before) ≡ true

going_on : (b fetch before earlier : Bool) → (before ≡ true → earlier ≡ true) → (if b then fetch else before) ≡ true
    → (if b then fetch else earlier) ≡ true
going_on true fetch before earlier left is = is
going_on false fetch before earlier left is = left is

left_of_list : (register_of : ℕ → ℕ) (bound : ℕ) (event : Event) (events : List Event) (before after : List Filling) → length after ≡ bound
    → IsFilledBy register_of bound (filled_register event) (is_fetch event) before after
    → ((i : ℕ) → fills_fetch i before ≡ true → is_fetched (register_of i) false events ≡ true)
    → (i : ℕ) → fills_fetch i after ≡ true → is_fetched (register_of i) false (events ++ event ∷ []) ≡ true
left_of_list register_of bound event events before after count filled left i is =
    with_last (register_of i) false events event
    ∙ going_on (filled_register event == register_of i) (is_fetch event) (fills_fetch i before) (is_fetched (register_of i) false events) (left i)
    (filled i (omega (arith, fills_inside i after is, count)) is)

-- the registers of the three lists
abbrev of_latch : ℕ → ℕ
of_latch i = plane_latch (i + 1)

abbrev of_first : ℕ → ℕ
of_first i = sprite_data i false

abbrev of_second : ℕ → ℕ
of_second i = sprite_data i true

record IsFilledOnce (register : ℕ) (fetch : Bool) (s t : Shadow) : Type 0 where
  pub planes : length t.latches ≡ length s.latches
  pub first : length t.words_a ≡ length s.words_a
  pub second : length t.words_b ≡ length s.words_b
  pub latches : IsFilledBy of_latch 6 register fetch s.latches t.latches
  pub words_a : IsFilledBy of_first 8 register fetch s.words_a t.words_a
  pub words_b : IsFilledBy of_second 8 register fetch s.words_b t.words_b

left_of_one : (event : Event) (events : List Event) (s t : Shadow) → IsFilledOnce (filled_register event) (is_fetch event) s t → IsLeftBy events s
    → IsLeftBy (events ++ event ∷ []) t
left_of_one event events s t filled left =
    let planes : length t.latches ≡ 6 = filled.planes ∙ left.planes in
    let first : length t.words_a ≡ 8 = filled.first ∙ left.first in
    let second : length t.words_b ≡ 8 = filled.second ∙ left.second in
    record {
      planes = planes;
      first = first;
      second = second;
      latches = left_of_list of_latch 6 event events s.latches t.latches planes filled.latches left.latches;
      words_a = left_of_list of_first 8 event events s.words_a t.words_a first filled.words_a left.words_a;
      words_b = left_of_list of_second 8 event events s.words_b t.words_b second filled.words_b left.words_b;
    }

-- a list that a write leaves alone, and one of which it fills a word
not_filled : (register_of : ℕ → ℕ) (bound register : ℕ) (fillings : List Filling) → ((i : ℕ) → i < bound → register ≡ register_of i → ⊥)
    → IsFilledBy register_of bound register false fillings fillings
not_filled register_of bound register fillings other i low is =
    ap (λ b. if b then false else fills_fetch i fillings) (ne_eqb register (register_of i) (other i low)) ∙ is

fill_same : (fillings : List Filling) (i : ℕ) (filling : Filling) → i < length fillings
    → fills_fetch i (slice_set fillings i filling) ≡ is_fetched_filling filling
fill_same fillings i filling low = ap (λ f. is_fetched_filling f) (get_or-set_same fillings i filling (Word 0) low)

fill_other : (fillings : List Filling) (j i : ℕ) (filling : Filling) → (i ≡ j → ⊥)
    → fills_fetch i (slice_set fillings j filling) ≡ fills_fetch i fillings
fill_other fillings j i filling other = ap (λ f. is_fetched_filling f) (get_or-set_other fillings j i filling (Word 0) other)

word_filled : (register_of : ℕ → ℕ) (bound register j word : ℕ) (fillings : List Filling) → length fillings ≡ bound
    → ((i : ℕ) → i < bound → register ≡ register_of i → i ≡ j)
    → IsFilledBy register_of bound register false fillings (slice_set fillings j (Word word))
word_filled register_of bound register j word fillings count one i low is =
    elim (cases_eq i j) [
      | inl e ↦ (
          let here : fills_fetch j (slice_set fillings j (Word word)) ≡ true = subst (λ k. fills_fetch k (slice_set fillings j (Word word)) ≡ true) e is in
          no_fetch (fills_fetch j (slice_set fillings j (Word word))) (fill_same fillings j (Word word) (omega (arith, e, low, count))) here)
      | inr other ↦ (
          let o : i ≡ j → ⊥ = other in
          ap (λ b. if b then false else fills_fetch i fillings) (ne_eqb register (register_of i) (λ same. o (one i low same)))
          ∙ sym (fill_other fillings j i (Word word) o)
          ∙ is)
    ]

-- where a fetch fills a register
either_way : (b x : Bool) → x ≡ true → (if b then true else x) ≡ true
either_way true x is = refl
either_way false x is = is

not_fetched : (register_of : ℕ → ℕ) (bound register : ℕ) (fillings : List Filling) → IsFilledBy register_of bound register true fillings fillings
not_fetched register_of bound register fillings i low is = either_way (register == register_of i) (fills_fetch i fillings) is

fetch_filled : (register_of : ℕ → ℕ) (bound register j : ℕ) (filling : Filling) (fillings : List Filling) → register ≡ register_of j
    → IsFilledBy register_of bound register true fillings (slice_set fillings j filling)
fetch_filled register_of bound register j filling fillings here i low is =
    elim (cases_eq i j) [
      | inl e ↦ (
          ap (λ b. if b then true else fills_fetch i fillings)
          (eq-eqb register (register_of i) (here ∙ ap (λ k. register_of k) (sym e))))
      | inr other ↦ (
          let o : i ≡ j → ⊥ = other in
          either_way (register == register_of i) (fills_fetch i fillings) (sym (fill_other fillings j i filling o) ∙ is))
    ]

-- registers of no word
abbrev IsElsewhere : ℕ → Type 0
IsElsewhere offset =
    ((i : ℕ) → i < 6 → offset ≡ of_latch i → ⊥) × ((i : ℕ) → i < 8 → offset ≡ of_first i → ⊥) × ((i : ℕ) → i < 8 → offset ≡ of_second i → ⊥)

below : (offset : ℕ) → offset < 0x110 → IsElsewhere offset
below offset low = (λ i few same. omega (arith, low, same), λ i few same. omega (arith, low, same), λ i few same. omega (arith, low, same))

at_number : (offset number : ℕ) → number < 0x110 → (offset == number) ≡ true → IsElsewhere offset
at_number offset number low here = below offset (omega (arith, eqb-true offset number here, low))

colours : (offset : ℕ) → is_colour offset ≡ true → IsElsewhere offset
colours offset here =
    let low : 0x180 ≤ offset = leb-true 0x180 offset (and_parts (nat_le 0x180 offset) (nat_le offset 0x1be) here).0 in
    (λ i few same. omega (arith, low, few, same), λ i few same. omega (arith, low, few, same), λ i few same. omega (arith, low, few, same))

elsewhere : (offset : ℕ) (s t : Shadow) → s.latches ≡ t.latches → s.words_a ≡ t.words_a → s.words_b ≡ t.words_b → IsElsewhere offset
    → IsFilledOnce offset false s t
elsewhere offset s t la aa ba other = record {
  planes = ap (λ l. length l) (sym la);
  first = ap (λ l. length l) (sym aa);
  second = ap (λ l. length l) (sym ba);
  latches = subst (λ l. IsFilledBy of_latch 6 offset false s.latches l) la (not_filled of_latch 6 offset s.latches other.0);
  words_a = subst (λ l. IsFilledBy of_first 8 offset false s.words_a l) aa (not_filled of_first 8 offset s.words_a other.1);
  words_b = subst (λ l. IsFilledBy of_second 8 offset false s.words_b l) ba (not_filled of_second 8 offset s.words_b other.2);
}

-- a write of a latch, and of a sprite's word
latched : (offset j word : ℕ) (s : Shadow) → length s.latches ≡ 6 → offset < 0x140 → ((i : ℕ) → i < 6 → offset ≡ of_latch i → i ≡ j)
    → IsFilledOnce offset false s (record s { latches = slice_set s.latches j (Word word) })
latched offset j word s count low one = record {
  planes = length-set s.latches j (Word word);
  first = refl;
  second = refl;
  latches = word_filled of_latch 6 offset j word s.latches count one;
  words_a = not_filled of_first 8 offset s.words_a (λ i few same. omega (arith, low, same));
  words_b = not_filled of_second 8 offset s.words_b (λ i few same. omega (arith, low, same));
}

first_written : (offset word armed : ℕ) (s : Shadow) → length s.words_a ≡ 8 → 0x140 ≤ offset → (offset - 0x140) % 8 ≡ 4
    → IsFilledOnce offset false s (record s { words_a = slice_set s.words_a ((offset - 0x140) / 8) (Word word); armed = armed })
first_written offset word armed s count low which = record {
  planes = refl;
  first = length-set s.words_a ((offset - 0x140) / 8) (Word word);
  second = refl;
  latches = not_filled of_latch 6 offset s.latches (λ i few same. omega (arith, low, few, same));
  words_a = word_filled of_first 8 offset ((offset - 0x140) / 8) word s.words_a count (λ i few same. omega (arith, same));
  words_b = not_filled of_second 8 offset s.words_b (λ i few same. omega (arith, which, same));
}

second_written : (offset word : ℕ) (s : Shadow) → length s.words_b ≡ 8 → 0x140 ≤ offset → ((offset - 0x140) % 8 ≡ 4 → ⊥)
    → IsFilledOnce offset false s (record s { words_b = slice_set s.words_b ((offset - 0x140) / 8) (Word word) })
second_written offset word s count low which = record {
  planes = refl;
  first = refl;
  second = length-set s.words_b ((offset - 0x140) / 8) (Word word);
  latches = not_filled of_latch 6 offset s.latches (λ i few same. omega (arith, low, few, same));
  words_a = not_filled of_first 8 offset s.words_a (λ i few same. which (omega (arith, same)));
  words_b = word_filled of_second 8 offset ((offset - 0x140) / 8) word s.words_b count (λ i few same. omega (arith, same));
}

-- its position and its control
control : (offset which : ℕ) → 0x140 ≤ offset → which < 4 → (offset - 0x140) % 8 ≡ which → IsElsewhere offset
control offset which low few is = (
  λ i fewer same. omega (arith, low, fewer, same),
  λ i fewer same. omega (arith, few, is, same),
  λ i fewer same. omega (arith, few, is, same),
)

by_test : {A : Type 0} (P : A → Type 0) (b : Bool) (x y : A) → (b ≡ true → P x) → (b ≡ false → P y) → P (if b then x else y)
by_test P true x y first second = first refl
by_test P false x y first second = second refl

sprite_written : (offset word : ℕ) (events : List Event) (s : Shadow) → IsLeftBy events s → 0x140 ≤ offset
    → IsFilledOnce offset false s (set_shadow_sprite ((offset - 0x140) / 8) ((offset - 0x140) % 8) word s)
sprite_written offset word events s left low =
    let P : Shadow → Type 0 = IsFilledOnce offset false s in
    let which : ℕ = (offset - 0x140) % 8 in
    by_test P (which == 0) _ _ (λ here. elsewhere offset s _ refl refl refl (control offset 0 low (omega arith) (eqb-true which 0 here)))
    (λ position. by_test P (which == 2) _ _ (λ here. elsewhere offset s _ refl refl refl (control offset 2 low (omega arith) (eqb-true which 2 here)))
    (λ controls. by_test P (which == 4) _ _ (λ here. first_written offset word _ s left.first low (eqb-true which 4 here))
    (λ other. second_written offset word s left.second low (eqb-false which 4 other))))

-- the latches of the first plane and of the others
first_latched : (offset word : ℕ) (s : Shadow) → length s.latches ≡ 6 → offset ≡ 0x110
    → IsFilledOnce offset false s (record s { latches = slice_set s.latches 0 (Word word) })
first_latched offset word s count here =
    latched offset 0 word s count (omega (arith, here)) (λ i few same. omega (arith, here, same))

other_latched : (offset word : ℕ) (s : Shadow) → length s.latches ≡ 6 → (0x112 ≤ offset) × (offset ≤ 0x11a)
    → IsFilledOnce offset false s (record s { latches = slice_set s.latches ((offset - 0x110) / 2) (Word word) })
other_latched offset word s count range =
    latched offset ((offset - 0x110) / 2) word s count (omega (arith, range.1)) (λ i few same. omega (arith, same))

-- any write of a register
outside : (low high offset : ℕ) → (nat_le low offset && nat_le offset high) ≡ false → low ≤ offset → offset ≤ high → ⊥
outside low high offset none first second =
    false≢true (sym none ∙ and_from (nat_le low offset) (nat_le offset high) (le-leb low offset first) (le-leb offset high second))

within : (low high offset : ℕ) → (nat_le low offset && nat_le offset high) ≡ true → (low ≤ offset) × (offset ≤ high)
within low high offset here =
    let both : (nat_le low offset ≡ true) × (nat_le offset high ≡ true) = and_parts (nat_le low offset) (nat_le offset high) here in
    (leb-true low offset both.0, leb-true offset high both.1)

latch_of_none : (offset i : ℕ) → (offset ≡ 0x110 → ⊥) → (0x112 ≤ offset → offset ≤ 0x11a → ⊥) → i < 6 → offset ≡ of_latch i → ⊥
latch_of_none offset zero first others few same = first (omega (arith, same))
latch_of_none offset (suc i) first others few same = others (omega (arith, same)) (omega (arith, few, same))

neither : (offset : ℕ) → (offset ≡ 0x110 → ⊥) → (0x112 ≤ offset → offset ≤ 0x11a → ⊥) → (0x140 ≤ offset → offset ≤ 0x17e → ⊥) → IsElsewhere offset
neither offset first others sprites = (
  λ i few same. latch_of_none offset i first others few same,
  λ i few same. sprites (omega (arith, same)) (omega (arith, few, same)),
  λ i few same. sprites (omega (arith, same)) (omega (arith, few, same)),
)

written : (offset word : ℕ) (events : List Event) (s : Shadow) → IsLeftBy events s → IsFilledOnce offset false s (set_shadow offset word s)
unfolding set_shadow
written offset word events s left =
    let P : Shadow → Type 0 = IsFilledOnce offset false s in
    by_test P (offset == 0x08e) _ _ (λ here. elsewhere offset s _ refl refl refl (at_number offset 0x08e (omega arith) here))
    (λ n1. by_test P (offset == 0x090) _ _ (λ here. elsewhere offset s _ refl refl refl (at_number offset 0x090 (omega arith) here))
    (λ n2. by_test P (offset == 0x098) _ _ (λ here. elsewhere offset s _ refl refl refl (at_number offset 0x098 (omega arith) here))
    (λ n3. by_test P (offset == 0x100) _ _ (λ here. elsewhere offset s _ refl refl refl (at_number offset 0x100 (omega arith) here))
    (λ n4. by_test P (offset == 0x102) _ _ (λ here. elsewhere offset s _ refl refl refl (at_number offset 0x102 (omega arith) here))
    (λ n5. by_test P (offset == 0x104) _ _ (λ here. elsewhere offset s _ refl refl refl (at_number offset 0x104 (omega arith) here))
    (λ n6. by_test P (offset == 0x110) _ _ (λ here. first_latched offset word s left.planes (eqb-true offset 0x110 here))
    (λ first. by_test P (is_latch offset) _ _ (λ here. other_latched offset word s left.planes (within 0x112 0x11a offset here))
    (λ others. by_test P (is_sprite offset) _ _ (λ here. sprite_written offset word events s left (within 0x140 0x17e offset here).0)
    (λ sprites. by_test P (is_colour offset) _ _ (λ here. elsewhere offset s _ refl refl refl (colours offset here))
    (λ none. elsewhere offset s s refl refl refl
    (neither offset (eqb-false offset 0x110 first) (outside 0x112 0x11a offset others) (outside 0x140 0x17e offset sprites))))))))))))

-- the script's touches, one after another
in_order : (c : ℕ) (touches : List Touch) (events : List Event) (s : Shadow) → AreSets touches → IsLeftBy events s
    → IsLeftBy (events ++ map (event_at c) touches) (touch_shadow_in_order c touches s)
unfolding touch_shadow_in_order
in_order c [] events s sets left = subst (λ l. IsLeftBy l s) (sym (append-nil events)) left
in_order c (T.Set reg word ∷ touches) events s sets left =
    let event : Event = E.Set (clock_of c) reg word in
    let next : IsLeftBy (events ++ event ∷ []) (set_shadow reg.offset word s) =
    left_of_one event events s (set_shadow reg.offset word s) (written reg.offset word events s left) left in
    subst (λ l. IsLeftBy l (touch_shadow_in_order c touches (set_shadow reg.offset word s))) (append_assoc events (event ∷ []) (map (event_at c) touches))
    (in_order c touches (events ++ event ∷ []) (set_shadow reg.offset word s) sets.1 next)
in_order c (T.Plane plane at ∷ touches) events s sets left = absurd sets.0
in_order c (T.Sprite sprite second at ∷ touches) events s sets left = absurd sets.0

pub left_by_sets : LeftBySets
left_by_sets run c events s left = in_order c (sets_at run c) events s (are_sets (due_at run c)) left

-- fetches
latch_fetched : (plane : ℕ) (filling : Filling) (s : Shadow) → 1 ≤ plane
    → IsFilledOnce (plane_latch plane) true s (record s { latches = slice_set s.latches (plane - 1) filling })
latch_fetched plane filling s low = record {
  planes = length-set s.latches (plane - 1) filling;
  first = refl;
  second = refl;
  latches = fetch_filled of_latch 6 (plane_latch plane) (plane - 1) filling s.latches (omega (arith, low));
  words_a = not_fetched of_first 8 (plane_latch plane) s.words_a;
  words_b = not_fetched of_second 8 (plane_latch plane) s.words_b;
}

sprite_fetched : (sprite : ℕ) (second : Bool) (filling : Filling) (s : Shadow)
    → IsFilledOnce (sprite_data sprite second) true s (fetch_shadow_sprite sprite second filling s)
sprite_fetched sprite false filling s = record {
  planes = refl;
  first = length-set s.words_a sprite filling;
  second = refl;
  latches = not_fetched of_latch 6 (sprite_data sprite false) s.latches;
  words_a = fetch_filled of_first 8 (sprite_data sprite false) sprite filling s.words_a refl;
  words_b = not_fetched of_second 8 (sprite_data sprite false) s.words_b;
}
sprite_fetched sprite true filling s = record {
  planes = refl;
  first = refl;
  second = length-set s.words_b sprite filling;
  latches = not_fetched of_latch 6 (sprite_data sprite true) s.latches;
  words_a = not_fetched of_first 8 (sprite_data sprite true) s.words_a;
  words_b = fetch_filled of_second 8 (sprite_data sprite true) sprite filling s.words_b refl;
}

pub left_by_touch : LeftByTouch
left_by_touch c None events s range left = subst (λ l. IsLeftBy l s) (sym (append-nil events)) left
left_by_touch c (Some (T.Set reg word)) events s range left =
    left_of_one (E.Set (clock_of (c + 1)) reg word) events s (set_shadow reg.offset word s) (written reg.offset word events s left) left
left_by_touch c (Some (T.Plane plane at)) events s range left =
    left_of_one (E.Plane (clock_of c) plane at) events s _ (latch_fetched plane (Fetched (clock_of c) at) s range.0) left
left_by_touch c (Some (T.Sprite sprite second at)) events s range left =
    left_of_one (E.Sprite (clock_of c) sprite second at) events s _ (sprite_fetched sprite second (Fetched (clock_of c) at) s) left

-- a write more
pub touch_in_two : TouchInTwo
touch_in_two c touch = parted c touch

abbrev one_or_none : Bool → ℕ
one_or_none b = if b then 1 else 0

no_more : (here last : Bool) → one_or_none (if here then false else last) ≤ one_or_none last
no_more true true = omega arith
no_more true false = omega arith
no_more false last = omega arith

no_more_fetched : (c : ℕ) (touch : Option Touch) (events : List Event) (register : ℕ)
    → one_or_none (is_fetched register false (events ++ bus_events c (write_alone touch))) ≤ one_or_none (is_fetched register false events)
no_more_fetched c None events register = omega (arith, ap (λ l. one_or_none (is_fetched register false l)) (append-nil events))
no_more_fetched c (Some (T.Set reg word)) events register =
    let event : Event = E.Set (clock_of (c + 1)) reg word in
    subst (λ b. one_or_none b ≤ one_or_none (is_fetched register false events)) (sym (with_last register false events event))
    (no_more (reg.offset == register) (is_fetched register false events))
no_more_fetched c (Some (T.Plane plane at)) events register = omega (arith, ap (λ l. one_or_none (is_fetched register false l)) (append-nil events))
no_more_fetched c (Some (T.Sprite sprite second at)) events register = omega (arith, ap (λ l. one_or_none (is_fetched register false l)) (append-nil events))

pub fewer_with_write : FewerWithWrite
fewer_with_write c touch events =
    sum_by-le-sum_by (λ register. one_or_none (is_fetched register false (events ++ bus_events c (write_alone touch))))
    (λ register. one_or_none (is_fetched register false events)) word_registers (λ register. no_more_fetched c touch events register)

-- the fetches of one list are no more than those of its registers
one_more : (before after : Bool) → (before ≡ true → after ≡ true) → one_or_none before ≤ one_or_none after
one_more true after left = omega (arith, ap (λ b. one_or_none b) (left refl))
one_more false after left = omega arith

no_fewer : (events : List Event) (fillings : List Filling) (registers : List ℕ) → length fillings ≡ length registers
    → ((i : ℕ) → i < length registers → fills_fetch i fillings ≡ true → is_fetched (slice_index registers i) false events ≡ true)
    → count_by is_fetched_filling fillings ≤ count_by (λ register. is_fetched register false events) registers
no_fewer events [] registers same left = omega arith
no_fewer events (filling ∷ fillings) [] same left = absurd (omega (arith, same))
no_fewer events (filling ∷ fillings) (register ∷ registers) same left =
    omega (
      arith,
      sum_by-cons (λ f. one_or_none (is_fetched_filling f)) filling fillings,
      sum_by-cons (λ r. one_or_none (is_fetched r false events)) register registers,
      one_more (is_fetched_filling filling) (is_fetched register false events) (left 0 (omega arith)),
      no_fewer events fillings registers (omega (arith, same)) (λ i low is. left (suc i) (omega (arith, low)) is),
    )

planes_are : (i : ℕ) → i < 6 → slice_index (map plane_latch all_planes) i ≡ of_latch i
planes_are zero low = refl
planes_are (suc zero) low = refl
planes_are (suc (suc zero)) low = refl
planes_are (suc (suc (suc zero))) low = refl
planes_are (suc (suc (suc (suc zero)))) low = refl
planes_are (suc (suc (suc (suc (suc zero))))) low = refl
planes_are (suc (suc (suc (suc (suc (suc i)))))) low = absurd (omega (arith, low))

sprites_are : (second : Bool) (i : ℕ) → i < 8 → slice_index (map (λ sprite. sprite_data sprite second) all_sprites) i ≡ sprite_data i second
sprites_are second zero low = refl
sprites_are second (suc zero) low = refl
sprites_are second (suc (suc zero)) low = refl
sprites_are second (suc (suc (suc zero))) low = refl
sprites_are second (suc (suc (suc (suc zero)))) low = refl
sprites_are second (suc (suc (suc (suc (suc zero))))) low = refl
sprites_are second (suc (suc (suc (suc (suc (suc zero)))))) low = refl
sprites_are second (suc (suc (suc (suc (suc (suc (suc zero))))))) low = refl
sprites_are second (suc (suc (suc (suc (suc (suc (suc (suc i)))))))) low = absurd (omega (arith, low))

no_fewer_planes : (events : List Event) (s : Shadow) → IsLeftBy events s
    → count_by is_fetched_filling s.latches ≤ count_by (λ register. is_fetched register false events) (map plane_latch all_planes)
no_fewer_planes events s left =
    no_fewer events s.latches (map plane_latch all_planes) left.planes
    (λ i low is. ap (λ register. is_fetched register false events) (planes_are i low) ∙ left.latches i is)

no_fewer_first : (events : List Event) (s : Shadow) → IsLeftBy events s
    → count_by is_fetched_filling s.words_a
    ≤ count_by (λ register. is_fetched register false events) (map (λ sprite. sprite_data sprite false) all_sprites)
no_fewer_first events s left =
    no_fewer events s.words_a (map (λ sprite. sprite_data sprite false) all_sprites) left.first
    (λ i low is. ap (λ register. is_fetched register false events) (sprites_are false i low) ∙ left.words_a i is)

no_fewer_second : (events : List Event) (s : Shadow) → IsLeftBy events s
    → count_by is_fetched_filling s.words_b
    ≤ count_by (λ register. is_fetched register false events) (map (λ sprite. sprite_data sprite true) all_sprites)
no_fewer_second events s left =
    no_fewer events s.words_b (map (λ sprite. sprite_data sprite true) all_sprites) left.second
    (λ i low is. ap (λ register. is_fetched register false events) (sprites_are true i low) ∙ left.words_b i is)

-- and those of all three
in_three : {X : Type 0} (f : X → ℕ) (a b c : List X) → sum_by f (a ++ (b ++ c)) ≡ sum_by f a + (sum_by f b + sum_by f c)
in_three f a b c = sum_by-append f a (b ++ c) ∙ ap (λ n. sum_by f a + n) (sum_by-append f b c)

all_three : (a b c x y z : ℕ) → a ≤ x → b ≤ y → c ≤ z → a + (b + c) ≤ x + (y + z)
all_three a b c x y z first second third = omega (arith, first, second, third)

pub fetches_are_latched : FetchesAreLatched
fetches_are_latched events s left =
    let filled : Filling → ℕ = λ f. one_or_none (is_fetched_filling f) in
    let last : ℕ → ℕ = λ r. one_or_none (is_fetched r false events) in
    let planes : List ℕ = map plane_latch all_planes in
    let first : List ℕ = map (λ sprite. sprite_data sprite false) all_sprites in
    let second : List ℕ = map (λ sprite. sprite_data sprite true) all_sprites in
    subst (λ n. n ≤ sum_by last (planes ++ (first ++ second))) (sym (in_three filled s.latches s.words_a s.words_b))
    (subst (λ n. sum_by filled s.latches + (sum_by filled s.words_a + sum_by filled s.words_b) ≤ n) (sym (in_three last planes first second))
    (all_three _ _ _ _ _ _ (no_fewer_planes events s left) (no_fewer_first events s left) (no_fewer_second events s left)))
