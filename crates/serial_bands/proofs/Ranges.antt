-- Ranges of clocks.
use Rattle.std.proofs.Common.{◌≡◌, ◌<◌, ℕ, zero, suc, ◌+◌, ◌-◌, Bool, true, false, ◌||◌, ◌==◌, if◌then◌else◌, List, ◌++◌}
use Rattle.std.proofs.Common.{Option, Some, None, refl, ap, ◌∙◌, sym, subst, arith, append_assoc, append-nil, bit_or}
use Rattle.std.proofs.lemmas.Bool.Decides.{nat_tests}
use Rattle.serial_model.specs.declared.picture.Touch.{Touch}
use Rattle.serial_model.specs.declared.picture.Touch.TheVariants.{Set, Plane, Sprite}
use Rattle.serial_model.specs.Made.{is_clx_read}
use Rattle.serial_model.specs.Serial.{state_over}
use Rattle.serial_model.specs.State.{reset}
use Rattle.serial_bands.specs.declared.event.Event.{Event}
use Rattle.serial_bands.specs.Run.{RunValue, state_of}
use Rattle.serial_bands.specs.Clock.{bytes_at, clx_at, made_at, clx_before_at, clx_after_at, due_at, bus_touch_at, write_alone, fetch_alone}
use Rattle.serial_bands.specs.Bands.{has_clx_read, has_read_at}
use Rattle.serial_bands.specs.BandShown.{bytes_from, clx_from}
use Rattle.serial_bands.specs.RightJob.{events_from, events_of, bus_events, script_events}
use Rattle.serial_bands.specs.RangeLaws.{ShownInRange, BytesOfTwo, ClxOfTwo, ReadByAccess, ReadByScript, EventsInRange, EventsOfOneMore}
use Rattle.serial_bands.proofs.NextClock.{next_shown, clx_at_start, clx_at_access, next_clx}
use Rattle.serial_bands.proofs.Ors.{or_assoc, or_none}

later : (c n : ℕ) → c + suc n ≡ suc (c + n)
later c n = omega arith

none_later : (c : ℕ) → c + 0 ≡ c
none_later c = omega arith

pub shown_in_range : ShownInRange
unfolding bytes_from
shown_in_range run c zero = ap (λ k. (state_of run k).shown) (none_later c) ∙ sym (append-nil (state_of run c).shown)
shown_in_range run c (suc n) =
    ap (λ k. (state_of run k).shown) (later c n)
    ∙ next_shown run (c + n)
    ∙ ap (λ l. l ++ bytes_at run (c + n)) (shown_in_range run c n)
    ∙ append_assoc (state_of run c).shown (bytes_from run c n) (bytes_at run (c + n))

more : (n m : ℕ) → n + suc m ≡ suc (n + m)
more n m = omega arith

third : (c n m : ℕ) → c + (n + m) ≡ c + n + m
third c n m = omega arith

pub bytes_of_two : BytesOfTwo
unfolding bytes_from
bytes_of_two run c n zero = ap (λ k. bytes_from run c k) (none_later n) ∙ sym (append-nil (bytes_from run c n))
bytes_of_two run c n (suc m) =
    ap (λ k. bytes_from run c k) (more n m)
    ∙ ap (λ k. bytes_from run c (n + m) ++ bytes_at run k) (third c n m)
    ∙ ap (λ l. l ++ bytes_at run (c + n + m)) (bytes_of_two run c n m)
    ∙ append_assoc (bytes_from run c n) (bytes_from run (c + n) m) (bytes_at run (c + n + m))

pub clx_of_two : ClxOfTwo
unfolding clx_from
clx_of_two run c n zero = ap (λ k. clx_from run c k) (none_later n) ∙ sym (or_none (clx_from run c n))
clx_of_two run c n (suc m) =
    ap (λ k. clx_from run c k) (more n m)
    ∙ ap (λ k. bit_or (clx_from run c (n + m)) (clx_at run k)) (third c n m)
    ∙ ap (λ l. bit_or l (clx_at run (c + n + m))) (clx_of_two run c n m)
    ∙ or_assoc (clx_from run c n) (clx_from run (c + n) m) (clx_at run (c + n + m))

-- the touch of an access as events: its fetch and then its write
pub parted : (c : ℕ) (touch : Option Touch) → bus_events c touch ≡ bus_events c (fetch_alone touch) ++ bus_events c (write_alone touch)
parted c None = refl
parted c (Some (Set reg word)) = refl
parted c (Some (Plane plane at)) = refl
parted c (Some (Sprite sprite second at)) = refl

-- the parts of the events of a range, put together from the left
regrouped : {A : Type 0} (a b c d : List A) → a ++ ((b ++ c) ++ d) ≡ (a ++ b) ++ (c ++ d)
regrouped a b c d = ap (λ l. a ++ l) (append_assoc b c d) ∙ sym (append_assoc a b (c ++ d))

fourfold : {A : Type 0} (a b c d : List A) → a ++ (b ++ (c ++ d)) ≡ (a ++ (b ++ c)) ++ d
fourfold a b c d = ap (λ l. a ++ l) (sym (append_assoc b c d)) ∙ sym (append_assoc a (b ++ c) d)

pub events_in_range : EventsInRange
events_in_range run from to less =
    let count : to - from ≡ suc (to - from - 1) = omega (arith, less) in
    ap (λ n. events_of run from n) count

shifted : (c n : ℕ) → c + 1 + n ≡ c + suc n
shifted c n = omega arith

pub events_of_one_more : EventsOfOneMore
unfolding events_from
events_of_one_more run c zero =
    let touch : Option Touch = bus_touch_at run c in
    ap (λ l. script_events run c ++ (l ++ events_from run (c + 1) 0)) (parted c touch)
    ∙ regrouped (script_events run c) (bus_events c (fetch_alone touch)) (bus_events c (write_alone touch)) (events_from run (c + 1) 0)
    ∙ ap (λ k. (script_events run c ++ bus_events c (fetch_alone touch))
    ++ (bus_events k (write_alone (bus_touch_at run k)) ++ events_from run (c + 1) 0)) (sym (none_later c))
events_of_one_more run c (suc n) =
    let last : ℕ → List Event = λ k. bus_events k (write_alone (bus_touch_at run k)) in
    ap (λ l. script_events run c ++ (bus_events c (bus_touch_at run c) ++ l)) (events_of_one_more run (c + 1) n)
    ∙ fourfold (script_events run c) (bus_events c (bus_touch_at run c)) (events_from run (c + 1) n) (last (c + 1 + n) ++ events_from run (c + 1 + suc n) 0)
    ∙ ap (λ k. events_from run c (suc n) ++ (last k ++ events_from run (c + 1 + suc n) 0)) (shifted c n)
    ∙ ap (λ k. events_from run c (suc n) ++ (last (c + suc n) ++ events_from run k 0)) (shifted c (suc n))

-- a read clears the bits, and without one they go on
emptied : (a b : Bool) (x : ℕ) → a || b ≡ true → (if a then 0 else if b then 0 else x) ≡ 0
emptied true b x read = refl
emptied false true x read = refl
emptied false false x read = ap (λ b. if b then 0 else x) read

carried : (a b : Bool) (x : ℕ) → a || b ≡ false → (if a then 0 else if b then 0 else x) ≡ x
carried false false x none = refl
carried true b x none = ap (λ read. if read then 0 else x) none
carried false true x none = ap (λ read. if read then 0 else x) none

empty_either_way : (a : Bool) → ◌≡◌ {A = ℕ} (if a then 0 else 0) 0
empty_either_way true = refl
empty_either_way false = refl

-- the bits at the start of a clock's picture step, by those after the one before
pub started : (run : RunValue) (c : ℕ)
    → clx_before_at run (suc c)
    ≡ (if has_clx_read (due_at run (suc c)) then 0 else if is_clx_read (made_at run c) then 0 else clx_after_at run c)
started run c =
    clx_at_start run (suc c) ∙ ap (λ x. if has_clx_read (due_at run (suc c)) then 0 else x) (next_clx run c)

not_zero : (c : ℕ) → (suc c == 0) ≡ false
not_zero c = grind (arith, nat_tests)

not_first : (c : ℕ) (b : Bool) → (suc c == 0) || b ≡ true → b ≡ true
not_first c b begin = ap (λ z. z || b) (sym (not_zero c)) ∙ begin

begun_empty : (run : RunValue) (c : ℕ) → (c == 0) || has_read_at run c ≡ true → clx_before_at run c ≡ 0
unfolding has_read_at state_over reset
begun_empty run zero begin = clx_at_start run 0 ∙ empty_either_way (has_clx_read (due_at run 0))
begun_empty run (suc c) begin =
    started run c ∙ emptied (has_clx_read (due_at run (suc c))) (is_clx_read (made_at run c)) (clx_after_at run c) (not_first c _ begin)

gone_on : (run : RunValue) (c : ℕ) → has_read_at run (suc c) ≡ false → clx_before_at run (suc c) ≡ clx_after_at run c
unfolding has_read_at
gone_on run c none =
    started run c ∙ carried (has_clx_read (due_at run (suc c))) (is_clx_read (made_at run c)) (clx_after_at run c) none

-- so the bits after a clock are those of the picture steps since the last read
gathered : (run : RunValue) (from n : ℕ) → (from == 0) || has_read_at run from ≡ true
    → ((k : ℕ) → k < n → has_read_at run (from + suc k) ≡ false) → clx_after_at run (from + n) ≡ clx_from run from (suc n)
unfolding clx_from
gathered run from zero begin inner =
    clx_at_access run (from + 0)
    ∙ ap (λ k. bit_or (clx_before_at run k) (clx_at run (from + 0))) (none_later from)
    ∙ ap (λ x. bit_or x (clx_at run (from + 0))) (begun_empty run from begin)
gathered run from (suc n) begin inner =
    let here : has_read_at run (suc (from + n)) ≡ false =
    subst (λ k. has_read_at run k ≡ false) (later from n) (inner n (omega arith)) in
    clx_at_access run (from + suc n)
    ∙ ap (λ k. bit_or (clx_before_at run k) (clx_at run (from + suc n))) (later from n)
    ∙ ap (λ x. bit_or x (clx_at run (from + suc n)))
    (gone_on run (from + n) here ∙ gathered run from n begin (λ k less. inner k (omega arith)))

pub read_by_access : ReadByAccess
read_by_access run from last order since =
    let n : ℕ = last - from in
    let there : from + n ≡ last = omega arith in
    let count : suc n ≡ last + 1 - from = omega arith in
    ap (λ k. clx_after_at run k) (sym there)
    ∙ gathered run from n since.begin (λ k less. since.inner (from + suc k) (omega arith) (omega arith))
    ∙ ap (λ k. clx_from run from k) count

next : (c : ℕ) → c + 1 ≡ suc c
next c = omega arith

pub read_by_script : ReadByScript
read_by_script run from last order since none =
    ap (λ k. (state_of run k).clx) (next last)
    ∙ next_clx run last
    ∙ ap (λ read. if read then 0 else clx_after_at run last) none
    ∙ read_by_access run from last order since
