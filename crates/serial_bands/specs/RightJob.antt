-- What the job of a band holds: all that its picture is drawn from.
use Rattle.std.specs.Prelude.{◌≡◌, ◌≤◌, ℕ, zero, suc, ◌+◌, ◌-◌, ◌*◌, List, [], ◌∷◌, ◌++◌, length, map, Option, Some, None}
use Rattle.ocs_base.specs.declared.addr.Addr.{Addr}
use Rattle.ocs_base.specs.declared.beam.Beam.{Beam}
use Rattle.ocs_base.specs.declared.beam.Clock.{Clock}
use Rattle.serial_model.specs.declared.picture.Denise.{Denise}
use Rattle.serial_model.specs.declared.picture.Touch.{Touch}
use Rattle.serial_model.specs.declared.picture.Touch.TheVariants as T
use Rattle.serial_model.specs.Made.{word_of}
use Rattle.serial_bands.specs.declared.event.Event.{Event}
use Rattle.serial_bands.specs.declared.event.Event.TheVariants as E
use Rattle.serial_bands.specs.Run.{RunValue, beam_at, run_memory}
use Rattle.serial_bands.specs.Clock.{opening_at, bus_touch_at, sets_at, fetch_alone}
use Rattle.serial_bands.specs.Bands.{IsBand}
use Rattle.serial_bands.specs.BandShown.{bytes_from}
use Rattle.serial_model.specs.StandsFor.{StandsFor}

abbrev pub clock_of : ℕ → Clock
clock_of c = record { 0 = c }

-- a touch at a clock as an event
abbrev pub event_at : ℕ → Touch → Event
event_at c (T.Set reg word) = E.Set (clock_of c) reg word
event_at c (T.Plane plane at) = E.Plane (clock_of c) plane at
event_at c (T.Sprite sprite second at) = E.Sprite (clock_of c) sprite second at

-- the events of the script's touches at a clock: its picture step sees them
abbrev pub script_events : RunValue → ℕ → List Event
script_events run c = map (event_at c) (sets_at run c)

-- the event of an access, where it touches the picture: a write is seen by the picture step of the next clock first, and a
-- fetch reads the memory of its own clock
abbrev pub bus_event : ℕ → Touch → Event
bus_event c (T.Set reg word) = E.Set (clock_of (c + 1)) reg word
bus_event c (T.Plane plane at) = E.Plane (clock_of c) plane at
bus_event c (T.Sprite sprite second at) = E.Sprite (clock_of c) sprite second at

abbrev pub bus_events : ℕ → Option Touch → List Event
bus_events c None = []
bus_events c (Some touch) = bus_event c touch ∷ []

-- The events of a range of clocks in their order, from a clock on, of which so many follow before the last. At each come
-- the script's and then that of the access; a write of the last clock's access is no event of the range.
unfoldable pub events_from : RunValue → ℕ → ℕ → List Event
events_from run c zero = script_events run c ++ bus_events c (fetch_alone (bus_touch_at run c))
events_from run c (suc n) = script_events run c ++ (bus_events c (bus_touch_at run c) ++ events_from run (c + 1) n)

-- the events of so many clocks from one on: none of no clock
abbrev pub events_of : RunValue → ℕ → ℕ → List Event
events_of run c zero = []
events_of run c (suc n) = events_from run c n

-- the events of the clocks from one up to, not including, another
abbrev pub events_in : RunValue → ℕ → ℕ → List Event
events_in run from to = events_of run from (to - from)

-- the words that are found are those of the run's memory, at each clock of a range, ends included, and each address
abbrev pub HasMemory : RunValue → ℕ → ℕ → (ℕ → Addr → ℕ) → Type 0
HasMemory run from to word_found = (c : ℕ) (at : Addr) → from ≤ c → c ≤ to →
    word_found c at ≡ word_of (run_memory run c) at.value

-- the parts of a job are right for a band: its range, the beam at the range's first clock, the picture state after the
-- first step of that clock, the events of the range, the memory at each of its clocks, and room for its visible pixels
pub record IsRightJob (run : RunValue) (n from to : ℕ) (beam : Beam) (opening : Denise) (events : List Event)
    (word_found : ℕ → Addr → ℕ) (room : ℕ) : Type 0 where
  pub band : IsBand run n from to
  pub place : beam ≡ beam_at run from
  pub stands : StandsFor (4 * beam.h) opening (opening_at run from)
  pub log : events ≡ events_in run from to
  pub memory : HasMemory run from to word_found
  pub size : room ≡ length (bytes_from run from (to - from))
