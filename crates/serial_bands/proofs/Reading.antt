-- The events of a range, read back.
use Rattle.std.proofs.Common.{◌≡◌, ◌≤◌, ℕ, zero, suc, ◌+◌, Bool, true, false, ◌==◌, if◌then◌else◌, List, [], ◌∷◌}
use Rattle.std.proofs.Common.{◌++◌, length, map, take, drop, Option, Some, None, refl, ap, ◌∙◌, sym, subst, arith}
use Rattle.std.specs.List.{slice_get}
use Rattle.std.proofs.lemmas.Bool.Decides.{nat_tests}
use Rattle.ocs_base.specs.declared.reg.Reg.{Reg}
use Rattle.ocs_base.specs.declared.script.Act.{Act}
use Rattle.ocs_base.specs.declared.script.Act.TheVariants.{Poke, Peek, Joy, Fire, Key}
use Rattle.ocs_base.specs.declared.script.At.{At}
use Rattle.serial_model.specs.declared.picture.Touch.{Touch}
use Rattle.serial_model.specs.declared.picture.Touch.TheVariants as T
use Rattle.serial_model.specs.Events.{made_by_act, add_touch, touches_of}
use Rattle.serial_model.specs.Made.{touch_of}
use Rattle.serial_model.specs.Registers.{is_picture_register}
use Rattle.serial_bands.specs.declared.event.Event.{Event}
use Rattle.serial_bands.specs.declared.event.Event.TheVariants as E
use Rattle.serial_bands.specs.Run.{RunValue}
use Rattle.serial_bands.specs.Clock.{bus_touch_at, sets_at, due_at, fetch_alone}
use Rattle.serial_bands.specs.RightJob.{event_at, bus_event, bus_events, script_events, events_from}
use Rattle.serial_bands.specs.EventReading.{touch_of_event, is_write_at, bus_touch_of, ScriptEventsAreSets, ScriptComesFirst}
use Rattle.serial_bands.specs.EventReading.{RestBehindScript, LastBehindScript, BusTouchIsFound, LastFetchIsFound}

touch_again : (c : ℕ) (touch : Touch) → touch_of_event (event_at c touch) ≡ touch
touch_again c (T.Set reg word) = refl
touch_again c (T.Plane plane at) = refl
touch_again c (T.Sprite sprite second at) = refl

touches_again : (c : ℕ) (touches : List Touch) → map touch_of_event (map (event_at c) touches) ≡ touches
touches_again c [] = refl
touches_again c (touch ∷ touches) =
    ap (λ t. t ∷ map touch_of_event (map (event_at c) touches)) (touch_again c touch) ∙ ap (λ l. touch ∷ l) (touches_again c touches)

pub script_events_are_sets : ScriptEventsAreSets
script_events_are_sets run c = touches_again c (sets_at run c)

-- the front of a list, of so many elements as another one has
front : {A B : Type 0} (f : A → B) (xs : List A) (ys : List B) → take (length xs) (map f xs ++ ys) ≡ map f xs
front f [] ys = refl
front f (x ∷ xs) ys = ap (λ l. f x ∷ l) (front f xs ys)

behind : {A B : Type 0} (f : A → B) (xs : List A) (ys : List B) → drop (length xs) (map f xs ++ ys) ≡ ys
behind f [] ys = refl
behind f (x ∷ xs) ys = behind f xs ys

at_front : {A B : Type 0} (f : A → B) (xs : List A) (ys : List B) → slice_get (map f xs ++ ys) (length xs) ≡ slice_get ys 0
at_front f [] ys = refl
at_front f (x ∷ xs) ys = at_front f xs ys

pub script_comes_first : ScriptComesFirst
unfolding events_from
script_comes_first run c zero = front (event_at c) (sets_at run c) (bus_events c (fetch_alone (bus_touch_at run c)))
script_comes_first run c (suc n) =
    front (event_at c) (sets_at run c) (bus_events c (bus_touch_at run c) ++ events_from run (c + 1) n)

pub rest_behind_script : RestBehindScript
unfolding events_from
rest_behind_script run c n = behind (event_at c) (sets_at run c) (bus_events c (bus_touch_at run c) ++ events_from run (c + 1) n)

pub last_behind_script : LastBehindScript
unfolding events_from
last_behind_script run c = behind (event_at c) (sets_at run c) (bus_events c (fetch_alone (bus_touch_at run c)))

-- the script writes registers alone
abbrev pub IsSet : Touch → Type 0
IsSet (T.Set reg word) = Unit {0}
IsSet (T.Plane plane at) = ⊥
IsSet (T.Sprite sprite second at) = ⊥

abbrev pub AreSets : List Touch → Type 0
AreSets [] = Unit {0}
AreSets (touch ∷ touches) = IsSet touch × AreSets touches

one_set : (b : Bool) (touch : Touch) (touches : List Touch) → IsSet touch → AreSets touches
    → AreSets (add_touch (if b then Some touch else None) touches)
one_set true touch touches set sets = (set, sets)
one_set false touch touches set sets = sets

set_by : (act : Act) (touches : List Touch) → AreSets touches → AreSets (add_touch (touch_of (made_by_act act)) touches)
set_by (Poke reg word) touches sets = one_set (is_picture_register reg.offset) (T.Set reg word) touches tt sets
set_by (Peek reg) touches sets = sets
set_by (Joy port word) touches sets = sets
set_by (Fire port down) touches sets = sets
set_by (Key code) touches sets = sets

pub are_sets : (events : List At) → AreSets (touches_of events)
unfolding touches_of
are_sets [] = tt
are_sets (e ∷ events) = set_by e.act (touches_of events) (are_sets events)

-- the first event, if there is one, is a write that no picture step before this clock sees, or a fetch of this other clock or a
-- later one
abbrev pub IsFrontFrom : ℕ → ℕ → List Event → Type 0
IsFrontFrom write fetch [] = Unit {0}
IsFrontFrom write fetch (E.Set at reg word ∷ events) = write ≤ at.0
IsFrontFrom write fetch (E.Plane at plane addr ∷ events) = fetch ≤ at.0
IsFrontFrom write fetch (E.Sprite at sprite second addr ∷ events) = fetch ≤ at.0

front_earlier : (write fetch to other : ℕ) (events : List Event) → to ≤ write → other ≤ fetch
    → IsFrontFrom write fetch events → IsFrontFrom to other events
front_earlier write fetch to other [] first second front = tt
front_earlier write fetch to other (E.Set at reg word ∷ events) first second front = omega (arith, first, front)
front_earlier write fetch to other (E.Plane at plane addr ∷ events) first second front = omega (arith, second, front)
front_earlier write fetch to other (E.Sprite at sprite second_word addr ∷ events) first second front = omega (arith, second, front)

upto : (c : ℕ) → c ≤ c
upto c = omega arith

upto_next : (c : ℕ) → c ≤ c + 1
upto_next c = omega arith

bus_front : (c : ℕ) (touch : Option Touch) (events : List Event) → IsFrontFrom (c + 1) c events → IsFrontFrom (c + 1) c (bus_events c touch ++ events)
bus_front c None events front = front
bus_front c (Some (T.Set reg word)) events front = upto (c + 1)
bus_front c (Some (T.Plane plane at)) events front = upto c
bus_front c (Some (T.Sprite sprite second at)) events front = upto c

script_front : (c : ℕ) (touches : List Touch) (events : List Event) → IsFrontFrom (c + 1) c events
    → IsFrontFrom c c (map (event_at c) touches ++ events)
script_front c [] events front = front_earlier (c + 1) c c c events (upto_next c) (upto c) front
script_front c (T.Set reg word ∷ touches) events front = upto c
script_front c (T.Plane plane at ∷ touches) events front = upto c
script_front c (T.Sprite sprite second at ∷ touches) events front = upto c

-- what comes behind the script's events of a clock, in a range
abbrev rest_from : RunValue → ℕ → ℕ → List Event
rest_from run c zero = bus_events c (fetch_alone (bus_touch_at run c)) ++ []
rest_from run c (suc n) = bus_events c (bus_touch_at run c) ++ events_from run (c + 1) n

no_more : (events : List Event) → events ++ [] ≡ events
no_more [] = refl
no_more (e ∷ events) = ap (λ l. e ∷ l) (no_more events)

parted : (run : RunValue) (c n : ℕ) → events_from run c n ≡ script_events run c ++ rest_from run c n
unfolding events_from
parted run c zero = ap (λ l. script_events run c ++ l) (sym (no_more (bus_events c (fetch_alone (bus_touch_at run c)))))
parted run c (suc n) = refl

pub front_of : (run : RunValue) (c n : ℕ) → IsFrontFrom c c (events_from run c n)
front_of run c zero =
    subst (λ l. IsFrontFrom c c l) (sym (parted run c 0))
    (script_front c (sets_at run c) (rest_from run c 0) (bus_front c (fetch_alone (bus_touch_at run c)) [] tt))
front_of run c (suc n) =
    subst (λ l. IsFrontFrom c c l) (sym (parted run c (suc n)))
    (script_front c (sets_at run c) (rest_from run c (suc n))
    (bus_front c (bus_touch_at run c) (events_from run (c + 1) n)
    (front_earlier (c + 1) (c + 1) (c + 1) c (events_from run (c + 1) n) (upto (c + 1)) (upto_next c) (front_of run (c + 1) n))))

rest_front : (run : RunValue) (c n : ℕ) → IsFrontFrom (c + 1) c (rest_from run c n)
rest_front run c zero = bus_front c (fetch_alone (bus_touch_at run c)) [] tt
rest_front run c (suc n) =
    bus_front c (bus_touch_at run c) (events_from run (c + 1) n)
    (front_earlier (c + 1) (c + 1) (c + 1) c (events_from run (c + 1) n) (upto (c + 1)) (upto_next c) (front_of run (c + 1) n))

-- tests of clocks
same_clock : (c : ℕ) → (c == c) ≡ true
same_clock c = grind (arith, nat_tests)

later_clock : (c at : ℕ) → c + 1 ≤ at → (at == c) ≡ false
later_clock c at later = grind (arith, nat_tests, later)

no_write : (c : ℕ) (events : List Event) → IsFrontFrom (c + 1) c events → is_write_at c (slice_get events 0) ≡ false
no_write c [] front = refl
no_write c (E.Set at reg word ∷ events) front = later_clock c at.0 front
no_write c (E.Plane at plane addr ∷ events) front = refl
no_write c (E.Sprite at sprite second addr ∷ events) front = refl

-- the last of the script's writes stands one place before the end of its events
last_write : (c : ℕ) (touch : Touch) (touches : List Touch) (events : List Event) → IsSet touch → AreSets touches
    → is_write_at c (slice_get (map (event_at c) (touch ∷ touches) ++ events) (length touches)) ≡ true
last_write c (T.Set reg word) [] events set sets = same_clock c
last_write c (T.Plane plane at) [] events set sets = absurd set
last_write c (T.Sprite sprite second at) [] events set sets = absurd set
last_write c touch (next ∷ touches) events set sets = last_write c next touches events sets.0 sets.1

-- no touch of the access: nothing is found
none_found : (c : ℕ) (touches : List Touch) (events : List Event) → AreSets touches → IsFrontFrom (c + 2) (c + 1) events
    → bus_touch_of c (length touches) (map (event_at (c + 1)) touches ++ events) ≡ None
none_found c [] [] sets front = refl
none_found c [] (E.Set at reg word ∷ events) sets front =
    ap (λ b. if b then Some (T.Set reg word) else None) (later_clock (c + 1) at.0 (omega (arith, front)))
none_found c [] (E.Plane at plane addr ∷ events) sets front =
    ap (λ b. if b then Some (T.Plane plane addr) else None) (later_clock c at.0 front)
none_found c [] (E.Sprite at sprite second addr ∷ events) sets front =
    ap (λ b. if b then Some (T.Sprite sprite second addr) else None) (later_clock c at.0 front)
none_found c (T.Set reg word ∷ touches) events sets front =
    ap (λ e. if is_write_at (c + 1) e then Some (T.Set reg word) else None) (at_front (event_at (c + 1)) touches events)
    ∙ ap (λ b. if b then Some (T.Set reg word) else None)
    (no_write (c + 1) events (front_earlier (c + 2) (c + 1) (c + 1 + 1) (c + 1) events (omega arith) (upto (c + 1)) front))
none_found c (T.Plane plane at ∷ touches) events sets front = absurd sets.0
none_found c (T.Sprite sprite second at ∷ touches) events sets front = absurd sets.0

-- a write of the access
write_found : (c : ℕ) (reg : Reg) (word : ℕ) (touches : List Touch) (events : List Event) → AreSets touches
    → is_write_at (c + 1) (slice_get (bus_event c (T.Set reg word) ∷ (map (event_at (c + 1)) touches ++ events)) (length touches)) ≡ true
write_found c reg word [] events sets = same_clock (c + 1)
write_found c reg word (touch ∷ touches) events sets = last_write (c + 1) touch touches events sets.0 sets.1

found : (run : RunValue) (c n : ℕ) (touch : Option Touch)
    → bus_touch_of c (length (sets_at run (c + 1))) (bus_events c touch ++ (script_events run (c + 1) ++ rest_from run (c + 1) n)) ≡ touch
found run c n None =
    none_found c (sets_at run (c + 1)) (rest_from run (c + 1) n) (are_sets (due_at run (c + 1)))
    (front_earlier (c + 1 + 1) (c + 1) (c + 2) (c + 1) (rest_from run (c + 1) n) (omega arith) (upto (c + 1)) (rest_front run (c + 1) n))
found run c n (Some (T.Set reg word)) =
    ap (λ b. if b then Some (T.Set reg word) else None)
    (write_found c reg word (sets_at run (c + 1)) (rest_from run (c + 1) n) (are_sets (due_at run (c + 1))))
found run c n (Some (T.Plane plane at)) = ap (λ b. if b then Some (T.Plane plane at) else None) (same_clock c)
found run c n (Some (T.Sprite sprite second at)) = ap (λ b. if b then Some (T.Sprite sprite second at) else None) (same_clock c)

pub bus_touch_is_found : BusTouchIsFound
bus_touch_is_found run c n touch =
    ap (λ l. bus_touch_of c (length (sets_at run (c + 1))) (bus_events c touch ++ l)) (parted run (c + 1) n) ∙ found run c n touch

pub last_fetch_is_found : LastFetchIsFound
last_fetch_is_found c coming None = refl
last_fetch_is_found c coming (Some (T.Set reg word)) = refl
last_fetch_is_found c coming (Some (T.Plane plane at)) = ap (λ b. if b then Some (T.Plane plane at) else None) (same_clock c)
last_fetch_is_found c coming (Some (T.Sprite sprite second at)) = ap (λ b. if b then Some (T.Sprite sprite second at) else None) (same_clock c)
