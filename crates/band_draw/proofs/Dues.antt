-- A cursor goes through a script.
use Rattle.std.proofs.Common.{◌≡◌, ◌≤◌, ◌<◌, ℕ, zero, suc, ◌+◌, Bool, true, false, nat_lt, List, [], ◌∷◌, length}
use Rattle.std.proofs.Common.{drop, slice_get, slice_index_or, Option, None, Some, refl, sym, ap, ◌∙◌, subst, arith}
use Rattle.std.specs.Bool.{if◌then◌else◌}
use Rattle.std.proofs.lemmas.Bool.Decides.{nat_tests}
use Rattle.std.specs.List.Sorted.{IsNonDecreasingBy, IsPartitionPoint}
use Rattle.ocs_base.specs.Limits.{AreFrom, AreInOrder, AreInLimits, time_of}
use Rattle.ocs_base.specs.declared.beam.Beam.{Beam}
use Rattle.ocs_base.specs.declared.script.At.{At}
use Rattle.ocs_base.specs.declared.script.Act.{Act}
use Rattle.ocs_base.specs.declared.script.Act.TheVariants.{Poke, Peek, Joy, Fire, Key}
use Rattle.ocs_base.specs.declared.system.System.{System}
use Rattle.serial_model.specs.Beam.{IsOnScreen, place_of}
use Rattle.serial_model.specs.Events.{IsQueue, due_events, touches_of, add_touch, made_by_act}
use Rattle.serial_model.specs.Made.{touch_of}
use Rattle.serial_model.specs.Registers.{is_picture_register}
use Rattle.serial_model.specs.declared.picture.Touch.{Touch}
use Rattle.serial_model.specs.declared.picture.Touch.TheVariants.{Set}
use Rattle.serial_model.proofs.EventLaws.{due_events-more, due_events-later, due_events-none, AreFrom-le, IsQueue-end}
use Rattle.band_draw.specs.code.Due.{IsLeft, IsLeftEarlier, is_set, before_if, due_if, sets_if, IsCounted}

first_of : List At → Option At
first_of [] = None
first_of (e ∷ events) = Some e

first_there : (script : List At) (n : ℕ) → slice_get script n ≡ first_of (drop n script)
unfolding first_of
first_there [] zero = refl
first_there [] (suc n) = refl
first_there (e ∷ script) zero = refl
first_there (e ∷ script) (suc n) = first_there script n

one_less : (script : List At) (n : ℕ) → drop 1 (drop n script) ≡ drop (suc n) script
one_less [] zero = refl
one_less [] (suc n) = refl
one_less (e ∷ script) zero = refl
one_less (e ∷ script) (suc n) = one_less script n

one_later : (n : ℕ) → suc n ≡ n + 1
one_later n = omega arith

pub next_left : (script : List At) (n : ℕ) → drop 1 (drop n script) ≡ drop (n + 1) script
next_left script n = one_less script n ∙ ap (λ k. drop k script) (one_later n)

-- an event before a place is not due there or later
not_due : (b : Beam) (e : At) (events : List At) → time_of e < place_of b → due_events b (e ∷ events) ≡ due_events b events
unfolding due_events
not_due b e events before = grind (arith, nat_tests)

before_true : (e : At) (place : ℕ) → nat_lt (time_of e) place ≡ true → time_of e < place
before_true e place is = grind (arith, nat_tests)

before_false : (e : At) (place : ℕ) → nat_lt (time_of e) place ≡ false → place ≤ time_of e
before_false e place is = grind (arith, nat_tests)

rising_from : (time : ℕ) (events : List At) → AreFrom time events → (k : ℕ) (d : At) → k < length events
    → time ≤ time_of (slice_index_or events k d)
rising_from time [] from k d less = absurd (omega (arith, less))
rising_from time (e ∷ events) from zero d less = from.0
rising_from time (e ∷ events) from (suc k) d less = rising_from time events from.1 k d (omega (arith, less))

-- the times of events in order do not fall
pub rising : (events : List At) → AreInOrder events → IsNonDecreasingBy time_of events
rising [] order i j d at less = absurd (omega (arith, less))
rising (e ∷ events) order zero zero d at less = omega arith
rising (e ∷ events) order zero (suc j) d at less = rising_from (time_of e) events order.0 j d (omega (arith, less))
rising (e ∷ events) order (suc i) zero d at less = absurd (omega (arith, at))
rising (e ∷ events) order (suc i) (suc j) d at less = rising events order.1 i j d (omega (arith, at)) (omega (arith, less))

-- where the first events are before a place and the others are not, those others are left there
pub left_at : (system : System) (frames place n : ℕ) (events : List At) → AreInOrder events → AreInLimits system frames events
    → IsPartitionPoint (λ e. nat_lt (time_of e) place ≡ true) (λ e. nat_lt (time_of e) place ≡ false) events n
    → IsLeft place events (drop n events)
left_at system frames place zero [] order limits point =
    record { system = system; frames = frames; from = tt; order = tt; limits = tt; same = λ b on later. refl }
left_at system frames place (suc n) [] order limits point =
    record { system = system; frames = frames; from = tt; order = tt; limits = tt; same = λ b on later. refl }
left_at system frames place zero (e ∷ events) order limits point =
    let after : place ≤ time_of e = before_false e place (point.1 0 e (omega arith) (omega arith)) in
    record {
      system = system;
      frames = frames;
      from = (after, AreFrom-le place (time_of e) events after order.0);
      order = order;
      limits = limits;
      same = λ b on later. refl;
    }
left_at system frames place (suc n) (e ∷ events) order limits point =
    let before : time_of e < place = before_true e place (point.0 0 e (omega arith) (omega arith)) in
    let rest : IsLeft place events (drop n events) =
    left_at system frames place n events order.1 limits.1 (
      (λ k d low high. point.0 (suc k) d (omega (arith, low)) (omega (arith, high))),
      (λ k d low high. point.1 (suc k) d (omega (arith, low)) (omega (arith, high))),
    ) in
    record {
      system = rest.system;
      frames = rest.frames;
      from = rest.from;
      order = rest.order;
      limits = rest.limits;
      same = λ b on later. not_due b e events (omega (arith, before, later)) ∙ rest.same b on later;
    }

-- where the next event is not before a later place, the same are left there
left_from : (earlier place : ℕ) (script left : List At) → IsLeft earlier script left → earlier ≤ place → before_if place (first_of left) ≡ false
    → IsLeft place script left
unfolding first_of
left_from earlier place script [] so order is = record {
  system = so.system;
  frames = so.frames;
  from = tt;
  order = so.order;
  limits = so.limits;
  same = λ b on later. so.same b on (omega (arith, order, later));
}
left_from earlier place script (e ∷ left) so order is =
    let after : place ≤ time_of e = before_false e place is in
    record {
      system = so.system;
      frames = so.frames;
      from = (after, AreFrom-le place (time_of e) left after so.order.0);
      order = so.order;
      limits = so.limits;
      same = λ b on later. so.same b on (omega (arith, order, later));
    }

pub left_later : (place n : ℕ) (script : List At) → IsLeftEarlier place script (drop n script) → before_if place (slice_get script n) ≡ false
    → IsLeft place script (drop n script)
left_later place n script so is =
    left_from so.earlier place script (drop n script) so.events so.order (ap (λ o. before_if place o) (sym (first_there script n)) ∙ is)

-- the writes that are due
counted_by : (b : Bool) (t : Touch) (touches : List Touch)
    → length (add_touch (if b then Some t else None) touches) ≡ (if b then 1 else 0) + length touches
counted_by true t touches = omega arith
counted_by false t touches = omega arith

none_more : (n : ℕ) → n ≡ 0 + n
none_more n = omega arith

counted_act : (act : Act) (touches : List Touch)
    → length (add_touch (touch_of (made_by_act act)) touches) ≡ (if is_set act then 1 else 0) + length touches
counted_act (Poke reg word) touches = counted_by (is_picture_register reg.offset) (Set reg word) touches
counted_act (Peek reg) touches = none_more (length touches)
counted_act (Joy port word) touches = none_more (length touches)
counted_act (Fire port down) touches = none_more (length touches)
counted_act (Key code) touches = none_more (length touches)

first_touch : (e : At) (events : List At) → touches_of (e ∷ events) ≡ add_touch (touch_of (made_by_act e.act)) (touches_of events)
unfolding touches_of
first_touch e events = refl

counted_one : (b : Beam) (script left : List At) (sets : ℕ) → IsOnScreen b → IsCounted b script left sets → due_if b (first_of left) ≡ true
    → IsCounted b script (drop 1 left) (sets + sets_if (first_of left))
unfolding first_of
counted_one b script [] sets on so is = cc
counted_one b script (e ∷ left) sets on so is =
    let queue : IsQueue so.system so.frames (place_of b) (e ∷ left) = record { from = so.from; order = so.order; limits = so.limits } in
    let more : length (touches_of (due_events b (e ∷ left))) ≡ sets_if (Some e) + length (touches_of (due_events b left)) =
    ap (λ l. length (touches_of l)) (due_events-more b e left is)
    ∙ ap (λ (l : List Touch). length l) (first_touch e (due_events b left))
    ∙ counted_act e.act (touches_of (due_events b left)) in
    record {
      system = so.system;
      frames = so.frames;
      from = so.from.1;
      order = so.order.1;
      limits = so.limits.1;
      same = λ later screen after.
          so.same later screen after ∙ due_events-later so.system so.frames (place_of b) b later e left queue on screen is (omega (arith, after));
      count = omega (arith, so.count, more);
    }

pub counted_more : (b : Beam) (script : List At) (n sets : ℕ) → IsOnScreen b → IsCounted b script (drop n script) sets
    → due_if b (slice_get script n) ≡ true → IsCounted b script (drop (n + 1) script) (sets + sets_if (slice_get script n))
counted_more b script n sets on so is =
    subst (λ l. IsCounted b script l (sets + sets_if (slice_get script n))) (next_left script n)
    (subst (λ o. IsCounted b script (drop 1 (drop n script)) (sets + sets_if o)) (sym (first_there script n))
    (counted_one b script (drop n script) sets on so (ap (λ o. due_if b o) (sym (first_there script n)) ∙ is)))

none_due : touches_of [] ≡ []
unfolding touches_of
none_due = refl

no_events : (b : Beam) → due_events b [] ≡ []
unfolding due_events
no_events b = refl

all_counted : (b : Beam) (script left : List At) (sets : ℕ) → due_events b left ≡ [] → IsCounted b script left sets
    → sets ≡ length (touches_of (due_events b script))
all_counted b script left sets none so =
    let nothing : length (touches_of (due_events b left)) ≡ 0 = ap (λ l. length (touches_of l)) none ∙ ap (λ (l : List Touch). length l) none_due in
    omega (arith, so.count, nothing)

left_behind : (b : Beam) (script left : List At) (sets : ℕ) → IsOnScreen b → IsCounted b script left sets → due_if b (first_of left) ≡ false
    → (sets ≡ length (touches_of (due_events b script))) × IsLeft (place_of b + 1) script left
unfolding first_of
left_behind b script [] sets on so is = (
  all_counted b script [] sets (no_events b) so,
  record { system = so.system; frames = so.frames; from = tt; order = so.order; limits = so.limits; same = so.same },
)
left_behind b script (e ∷ left) sets on so is =
    let queue : IsQueue so.system so.frames (place_of b) (e ∷ left) = record { from = so.from; order = so.order; limits = so.limits } in
    let end : IsQueue so.system so.frames (place_of b + 1) (e ∷ left) = IsQueue-end so.system so.frames b e left queue on is in (
      all_counted b script (e ∷ left) sets (due_events-none so.system so.frames b (e ∷ left) end.from so.limits on) so,
      record { system = so.system; frames = so.frames; from = end.from; order = so.order; limits = so.limits; same = so.same },
    )

pub left_next : (b : Beam) (script : List At) (n sets : ℕ) → IsOnScreen b → IsCounted b script (drop n script) sets
    → due_if b (slice_get script n) ≡ false
    → (sets ≡ length (touches_of (due_events b script))) × IsLeft (place_of b + 1) script (drop n script)
left_next b script n sets on so is =
    left_behind b script (drop n script) sets on so (ap (λ o. due_if b o) (sym (first_there script n)) ∙ is)

pub counted_none : (b : Beam) (script left : List At) → IsOnScreen b → IsLeft (place_of b) script left → IsCounted b script left 0
counted_none b script left on is = record {
  system = is.system;
  frames = is.frames;
  from = is.from;
  order = is.order;
  limits = is.limits;
  same = λ later screen after. is.same later screen (omega (arith, after));
  count = ap (λ l. length (touches_of l)) (is.same b on (omega arith)) ∙ none_more (length (touches_of (due_events b left)));
}
