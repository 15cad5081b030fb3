-- What is kept of the picture while the clocks of a run go by: the band that is open, the write that waits, and the shadow.
use Rattle.std.specs.Prelude.{◌≡◌, ◌≤◌, ◌<◌, ◌⊎◌, ℕ, ◌+◌, ◌-◌, ◌*◌, true, List, [], ◌∷◌, ◌++◌, length, Option, Some, None}
use Rattle.mem_versions.specs.Chip.{ChipValue}
use Rattle.ocs_base.specs.declared.beam.Beam.{Beam}
use Rattle.serial_model.specs.declared.picture.Denise.{Denise}
use Rattle.serial_model.specs.declared.picture.Touch.{Touch}
use Rattle.serial_model.specs.declared.picture.Touch.TheVariants as T
use Rattle.serial_model.specs.Picture.{clear_line, set_picture, reset_picture}
use Rattle.serial_model.specs.Side.{SideValue}
use Rattle.serial_bands.specs.declared.event.Event.{Event}
use Rattle.serial_bands.specs.declared.event.Event.TheVariants as E
use Rattle.serial_bands.specs.Run.{RunValue, beam_at, run_memory}
use Rattle.serial_bands.specs.Clock.{opening_at, picture_at, fetch_alone}
use Rattle.serial_bands.specs.Bands.{begins, begun}
use Rattle.serial_bands.specs.BandShown.{bytes_from}
use Rattle.serial_bands.specs.RightJob.{clock_of, event_at, bus_events, script_events}
use Rattle.serial_model.specs.StandsFor.{StandsFor}
use Rattle.serial_bands.specs.Stores.{stores_at}
use Rattle.serial_bands.specs.OpenBand.{IsOpen, clock_events, waiting_events}
use Rattle.serial_bands.specs.Shadows.{IsShadowOf, touch_shadow, touch_shadow_if_any}
use Rattle.serial_bands.specs.Fetches.{IsInRangeOf, IsLeftBy}
use Rattle.band_log.specs.declared.job.Job.{Job}
use Rattle.band_log.specs.Right.{IsRightJob}
use Rattle.picture_log.specs.declared.band.OpenBand.{OpenBand}
use Rattle.picture_log.specs.declared.log.Log.{Log}

-- the event that waits, as a list: none or one
abbrev pub waiting_list : Option Event → List Event
waiting_list None = []
waiting_list (Some event) = event ∷ []

-- how many bytes the run shows from a clock up to another
abbrev pub size_to : RunValue → ℕ → ℕ → ℕ
size_to run from to = length (bytes_from run from (to - from))

-- a band that begins with clock c: no clock of it is done. Its opening is not yet cleared, if a line starts
pub record IsBeginning (run : RunValue) (c : ℕ) (band : OpenBand) (chip : ChipValue) : Type 0 where
  pub from : band.from ≡ c
  pub number : begun run c ≡ band.number
  pub begin : begins run c ≡ true
  pub stands : StandsFor (4 * (beam_at run c).h) (clear_line (beam_at run c) band.opening) (opening_at run c)
  pub events : band.events ≡ []
  pub base : chip.base ≡ run_memory run c
  pub writes : chip.writes ≡ []

-- a band of which the clocks before c are done, with the write that waits
pub record IsGrowing (run : RunValue) (c : ℕ) (band : OpenBand) (waiting : Option Event) (chip : ChipValue) : Type 0 where
  pub kept : IsOpen run band.number band.from c band.beam band.opening band.events (size_to run band.from c) chip
  pub waits : waiting_list waiting ≡ waiting_events run c

abbrev pub IsBandOf : RunValue → ℕ → Log → ChipValue → Type 0
IsBandOf run c log chip =
    (IsBeginning run c log.band chip × (log.waiting ≡ None)) ⊎ IsGrowing run c log.band log.waiting chip

-- the log stands at the start of clock c of a run, over a memory that was cut at its band's begin
pub record IsLogOf (run : RunValue) (c : ℕ) (log : Log) (chip : ChipValue) : Type 0 where
  pub band : IsBandOf run c log chip
  pub least : log.band.from ≤ c
  pub last : chip.last ≡ log.band.from
  pub shadow : IsShadowOf run log.shadow (opening_at run c)
  pub range : IsInRangeOf log.band.from c log.shadow
  pub left : IsLeftBy (log.band.events ++ waiting_list log.waiting) log.shadow

-- What clock c makes of a band that is about to have it: with its events and the stores of its access
-- it is open once the clock is done.
abbrev pub Grows : RunValue → ℕ → OpenBand → ChipValue → Type 0
Grows run c band chip =
    (grown : OpenBand) (after : ChipValue) →
    grown ≡ record band { events = band.events ++ clock_events run c } →
    after.base ≡ chip.base → after.writes ≡ chip.writes ++ stores_at run c →
    IsOpen run band.number band.from (c + 1) band.beam band.opening grown.events (size_to run band.from (c + 1)) after

-- the log once the clocks before `to` are done, where another band begins with clock `to`: the write that waits is no event of
-- the band that ends
pub record IsEnding (run : RunValue) (to : ℕ) (log : Log) (chip : ChipValue) : Type 0 where
  pub kept : IsOpen run log.band.number log.band.from to log.band.beam log.band.opening log.band.events
      (size_to run log.band.from to) chip
  pub begin : begins run to ≡ true
  pub waits : waiting_list log.waiting ≡ waiting_events run to
  pub last : chip.last ≡ log.band.from

-- and once that band's job was made, and the memory cut at clock `to`, while the opening of the next band is not known
pub record IsCut (run : RunValue) (to : ℕ) (log : Log) (chip : ChipValue) : Type 0 where
  pub later : 0 < to
  pub from : log.band.from ≡ to
  pub number : begun run to ≡ log.band.number
  pub begin : begins run to ≡ true
  pub waits : waiting_list log.waiting ≡ waiting_events run to
  pub events : log.band.events ≡ []
  pub base : chip.base ≡ run_memory run to
  pub writes : chip.writes ≡ []
  pub last : chip.last ≡ to

-- a job is right for a band of which the clocks before `to` are done
pub record IsJobOf {S : Type 0} (seen : S → SideValue) (run : RunValue) (band : OpenBand) (to : ℕ) (job : Job S) : Type 0 where
  pub right : IsRightJob seen run band.number job
  pub from : job.from.0 ≡ band.from
  pub end : job.to.0 ≡ to

-- the log within clock c, before the script's events of it
pub record IsStarted (run : RunValue) (c : ℕ) (log : Log) (chip : ChipValue) : Type 0 where
  pub grows : Grows run c log.band chip
  pub waits : log.waiting ≡ None
  pub least : log.band.from ≤ c
  pub last : chip.last ≡ log.band.from
  pub shadow : IsShadowOf run log.shadow (opening_at run c)
  pub range : IsInRangeOf log.band.from c log.shadow
  pub left : IsLeftBy log.band.events log.shadow

-- and behind the picture step: the script's events of the clock were added
pub record IsShown (run : RunValue) (c : ℕ) (log : Log) (chip : ChipValue) : Type 0 where
  pub before : OpenBand
  pub grows : Grows run c before chip
  pub band : log.band ≡ record before { events = before.events ++ script_events run c }
  pub waits : log.waiting ≡ None
  pub least : log.band.from ≤ c
  pub last : chip.last ≡ log.band.from
  pub shadow : IsShadowOf run log.shadow (picture_at run c)
  pub range : IsInRangeOf log.band.from (c + 1) log.shadow
  pub left : IsLeftBy log.band.events log.shadow

-- the event that waited is one of the band
abbrev pub with_waiting : Log → Log
with_waiting log = record log {
  band = record log.band { events = log.band.events ++ waiting_list log.waiting };
  waiting = None;
}

-- the band begins with this place of the beam, and with its opening cleared where a line starts
abbrev pub with_begin : Beam → Log → Log
with_begin beam log = record log {
  band = record log.band { beam = beam; opening = clear_line beam log.band.opening };
}

-- a touch by the script at clock c, and touches in their order
abbrev pub with_script_touch : ℕ → Touch → Log → Log
with_script_touch c touch log = record log {
  band = record log.band { events = log.band.events ++ event_at c touch ∷ [] };
  shadow = touch_shadow c touch log.shadow;
}

unfoldable pub with_script_touches : ℕ → List Touch → Log → Log
with_script_touches c [] log = log
with_script_touches c (touch ∷ touches) log = with_script_touches c touches (with_script_touch c touch log)

-- of a touch by the access of clock c the write waits, and the fetch is an event at once
abbrev pub waiting_write : ℕ → Option Touch → Option Event
waiting_write c None = None
waiting_write c (Some (T.Set reg word)) = Some (E.Set (clock_of (c + 1)) reg word)
waiting_write c (Some (T.Plane plane at)) = None
waiting_write c (Some (T.Sprite sprite second at)) = None

abbrev pub with_access_touch : ℕ → Option Touch → Log → Log
with_access_touch c touch log = record log {
  band = record log.band { events = log.band.events ++ bus_events c (fetch_alone touch) };
  waiting = waiting_write c touch;
  shadow = touch_shadow_if_any c touch log.shadow;
}

-- a picture state with the write that waited made at clock h of the line
abbrev pub with_write_at : ℕ → Option Event → Denise → Denise
with_write_at h None p = p
with_write_at h (Some (E.Set at reg word)) p = set_picture h reg.offset word p
with_write_at h (Some (E.Plane at plane addr)) p = p
with_write_at h (Some (E.Sprite at sprite second addr)) p = p

-- the band that begins at clock `to`, whose opening is not known yet
abbrev pub blank_after : ℕ → OpenBand → OpenBand
blank_after to band = record band { number = band.number + 1; from = to; opening = reset_picture; events = [] }
