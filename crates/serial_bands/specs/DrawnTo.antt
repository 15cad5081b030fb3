-- How far a band is drawn, clock by clock, from what its job holds.
use Rattle.std.specs.Prelude.{◌≡◌, ◌<◌, ◌≤◌, ℕ, ◌+◌, ◌-◌, ◌*◌, List, [], ◌++◌, length, drop, bit_or, Option, Some, None}
use Rattle.ocs_base.specs.declared.addr.Addr.{Addr}
use Rattle.ocs_base.specs.declared.beam.Beam.{Beam}
use Rattle.serial_model.specs.declared.picture.Denise.{Denise}
use Rattle.serial_model.specs.declared.picture.Touch.{Touch}
use Rattle.serial_model.specs.declared.picture.Touch.TheVariants as T
use Rattle.serial_model.specs.Made.{word_of}
use Rattle.serial_model.specs.Picture.{clear_line, set_picture, plane_latch, sprite_data, touch_if_any}
use Rattle.serial_bands.specs.declared.event.Event.{Event}
use Rattle.serial_bands.specs.Run.{RunValue, beam_at, run_memory}
use Rattle.serial_bands.specs.Clock.{opening_at, sets_at, bus_touch_at, fetch_alone}
use Rattle.serial_bands.specs.Bands.{IsBand}
use Rattle.serial_model.specs.StandsFor.{StandsFor}
use Rattle.serial_bands.specs.BandShown.{bytes_from, clx_from, IsRightDrawn}
use Rattle.serial_bands.specs.RightJob.{bus_events, events_from, HasMemory, IsRightJob}
use Rattle.serial_bands.specs.EventReading.{bus_touch_of}
use Rattle.serial_bands.specs.ReplayLaws.{step_of_kept, after_kept, with_fetch}

-- The clocks from `from` up to, not including, c are drawn of a range that ends at `to`: the picture state that is kept stands
-- for the opening of c, the events are those that are left, and bytes and collision bits are those of these clocks.
pub record IsDrawnTo (run : RunValue) (from to c : ℕ) (kept : Denise) (events : List Event) (bytes : List ℕ) (clx : ℕ) : Type 0 where
  pub least : from ≤ c
  pub most : c < to
  pub stands : StandsFor (4 * (beam_at run c).h) kept (opening_at run c)
  pub log : events ≡ events_from run c (to - c - 1)
  pub shown : bytes ≡ bytes_from run from (c - from)
  pub gathered : clx ≡ clx_from run from (c - from)

-- what is left behind the script's events of a clock, and behind that of its access
abbrev pub behind_script : RunValue → ℕ → List Event → List Event
behind_script run c events = drop (length (sets_at run c)) events

abbrev pub behind_clock : RunValue → ℕ → List Event → List Event
behind_clock run c events = drop (length (bus_events c (bus_touch_at run c))) (behind_script run c events)

-- a picture state touched by a clock's access
abbrev pub with_access : RunValue → ℕ → Denise → Denise
with_access run c p = touch_if_any (beam_at run c).h (word_of (run_memory run c)) (bus_touch_at run c) p

-- the same by words that are found by address
abbrev pub touch_by_address : ℕ → (Addr → ℕ) → Option Touch → Denise → Denise
touch_by_address h word_found None p = p
touch_by_address h word_found (Some (T.Set reg word)) p = set_picture h reg.offset word p
touch_by_address h word_found (Some (T.Plane plane at)) p = set_picture h (plane_latch plane) (word_found at) p
touch_by_address h word_found (Some (T.Sprite sprite second at)) p = set_picture h (sprite_data sprite second) (word_found at) p

-- a right job's memory has the words that the run's touches read
abbrev pub WordsAreFound : Type 0
WordsAreFound = (run : RunValue) (from to c : ℕ) (word_found : ℕ → Addr → ℕ) (touch : Option Touch) (p : Denise) →
    HasMemory run from to word_found → from ≤ c → c ≤ to →
    touch_by_address (beam_at run c).h (word_found c) touch p ≡ touch_if_any (beam_at run c).h (word_of (run_memory run c)) touch p

-- it begins with what a right job holds
abbrev pub DrawingBegins : Type 0
DrawingBegins = (run : RunValue) (n from to : ℕ) (beam : Beam) (opening : Denise) (events : List Event) (word_found : ℕ → Addr → ℕ) (room : ℕ) →
    IsRightJob run n from to beam opening events word_found room → IsDrawnTo run from to from opening events [] 0

-- before the last clock the access's touch is found among the events, by the number of the script's writes in the next clock
abbrev pub TouchIsNext : Type 0
TouchIsNext = (run : RunValue) (from to c : ℕ) (kept : Denise) (events : List Event) (bytes : List ℕ) (clx : ℕ) →
    IsDrawnTo run from to c kept events bytes clx → c + 1 < to →
    bus_touch_of c (length (sets_at run (c + 1))) (behind_script run c events) ≡ bus_touch_at run c

-- and with it the next clock is come to
abbrev pub DrawingGoesOn : Type 0
DrawingGoesOn = (run : RunValue) (from to c : ℕ) (kept : Denise) (events : List Event) (bytes : List ℕ) (clx : ℕ) →
    IsDrawnTo run from to c kept events bytes clx → c + 1 < to →
    IsDrawnTo run from to (c + 1) (clear_line (beam_at run (c + 1)) (with_access run c (after_kept run c kept)))
    (behind_clock run c events) (bytes ++ (step_of_kept run c kept).bytes) (bit_or clx (step_of_kept run c kept).clx)

-- at the last clock its fetch is found, and with it what is drawn is right, with any picture state that stands for what that
-- clock leaves
abbrev pub LastFetchIsNext : Type 0
LastFetchIsNext = (run : RunValue) (from to c coming : ℕ) (kept : Denise) (events : List Event) (bytes : List ℕ) (clx : ℕ) →
    IsDrawnTo run from to c kept events bytes clx → c + 1 ≡ to →
    bus_touch_of c coming (behind_script run c events) ≡ fetch_alone (bus_touch_at run c)

abbrev pub DrawingEnds : Type 0
DrawingEnds = (run : RunValue) (n from to c : ℕ) (kept closing : Denise) (events : List Event) (bytes : List ℕ) (clx : ℕ) →
    IsBand run n from to → IsDrawnTo run from to c kept events bytes clx → c + 1 ≡ to →
    StandsFor (4 * (beam_at run c).h + 4) closing (with_fetch run c (after_kept run c kept)) →
    IsRightDrawn run n from to (bytes ++ (step_of_kept run c kept).bytes) (bit_or clx (step_of_kept run c kept).clx) closing
