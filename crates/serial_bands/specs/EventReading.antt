-- How the events of a range are read back: which touch an event is, and whether a write is the script's or the access's.
use Rattle.std.specs.Prelude.{◌≡◌, ℕ, suc, ◌+◌, Bool, false, ◌==◌, if◌then◌else◌, List, [], ◌∷◌, ◌++◌, length, map, take, drop, slice_get, Option, Some, None}
use Rattle.serial_model.specs.declared.picture.Touch.{Touch}
use Rattle.serial_model.specs.declared.picture.Touch.TheVariants as T
use Rattle.serial_bands.specs.declared.event.Event.{Event}
use Rattle.serial_bands.specs.declared.event.Event.TheVariants as E
use Rattle.serial_bands.specs.Run.{RunValue}
use Rattle.serial_bands.specs.Clock.{bus_touch_at, sets_at, fetch_alone}
use Rattle.serial_bands.specs.RightJob.{bus_events, script_events, events_from}

abbrev pub touch_of_event : Event → Touch
touch_of_event (E.Set at reg word) = T.Set reg word
touch_of_event (E.Plane at plane addr) = T.Plane plane addr
touch_of_event (E.Sprite at sprite second addr) = T.Sprite sprite second addr

-- a write that the picture step of a clock is the first to see
abbrev pub is_write_at : ℕ → Option Event → Bool
is_write_at c None = false
is_write_at c (Some (E.Set at reg word)) = at.0 == c
is_write_at c (Some (E.Plane at plane addr)) = false
is_write_at c (Some (E.Sprite at sprite second addr)) = false

-- Of the events behind the script's of a clock, the first is that of the clock's access, where it touches the picture: a
-- fetch of the clock, or a write of the next clock behind which come as many writes of that clock as the script has there.
abbrev pub bus_touch_of : ℕ → ℕ → List Event → Option Touch
bus_touch_of c coming [] = None
bus_touch_of c coming (E.Set at reg word ∷ events) =
    if is_write_at (c + 1) (slice_get (E.Set at reg word ∷ events) coming) then Some (T.Set reg word) else None
bus_touch_of c coming (E.Plane at plane addr ∷ events) = if at.0 == c then Some (T.Plane plane addr) else None
bus_touch_of c coming (E.Sprite at sprite second addr ∷ events) =
    if at.0 == c then Some (T.Sprite sprite second addr) else None

-- an event is the touch of which it was made
abbrev pub ScriptEventsAreSets : Type 0
ScriptEventsAreSets = (run : RunValue) (c : ℕ) → map touch_of_event (script_events run c) ≡ sets_at run c

-- a range begins with the script's events of its first clock, and then come those of the access and of the clocks that follow
abbrev pub ScriptComesFirst : Type 0
ScriptComesFirst = (run : RunValue) (c n : ℕ) → take (length (sets_at run c)) (events_from run c n) ≡ script_events run c

abbrev pub RestBehindScript : Type 0
RestBehindScript = (run : RunValue) (c n : ℕ) →
    drop (length (sets_at run c)) (events_from run c (suc n)) ≡ bus_events c (bus_touch_at run c) ++ events_from run (c + 1) n

abbrev pub LastBehindScript : Type 0
LastBehindScript = (run : RunValue) (c : ℕ) →
    drop (length (sets_at run c)) (events_from run c 0) ≡ bus_events c (fetch_alone (bus_touch_at run c))

-- the access's touch is found there, before the last clock and at it
abbrev pub BusTouchIsFound : Type 0
BusTouchIsFound = (run : RunValue) (c n : ℕ) (touch : Option Touch) →
    bus_touch_of c (length (sets_at run (c + 1))) (bus_events c touch ++ events_from run (c + 1) n) ≡ touch

abbrev pub LastFetchIsFound : Type 0
LastFetchIsFound = (c coming : ℕ) (touch : Option Touch) → bus_touch_of c coming (bus_events c (fetch_alone touch)) ≡ fetch_alone touch
