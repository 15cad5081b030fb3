-- A band that is not yet closed: what is kept of it while its clocks run, and how that becomes its job.
use Rattle.std.specs.Prelude.{◌≡◌, ◌<◌, ℕ, ◌+◌, ◌-◌, ◌*◌, true, false, List, ◌++◌, length}
use Rattle.ocs_base.specs.declared.beam.Beam.{Beam}
use Rattle.mem_versions.specs.Chip.{ChipValue}
use Rattle.mem_versions.specs.MemView.{ViewValue, IsViewOf, word_then}
use Rattle.serial_model.specs.declared.picture.Denise.{Denise}
use Rattle.serial_bands.specs.declared.event.Event.{Event}
use Rattle.serial_bands.specs.Run.{RunValue, beam_at, run_memory}
use Rattle.serial_bands.specs.Clock.{opening_at, bytes_at, bus_touch_at, write_alone}
use Rattle.serial_bands.specs.Bands.{begins, begun}
use Rattle.serial_model.specs.StandsFor.{StandsFor}
use Rattle.serial_bands.specs.BandShown.{bytes_from}
use Rattle.serial_bands.specs.RightJob.{bus_events, events_of, events_in, IsRightJob}
use Rattle.serial_bands.specs.Stores.{stores_at, stores_from}

-- what is kept of band n, which began at `from`, once the clocks before c are done: the beam and the picture state of its begin,
-- the events so far, the number of its pixel bytes, and a memory that was cut at its begin. A write of a register that the
-- last access made is not yet an event.
pub record IsOpen (run : RunValue) (n from c : ℕ) (beam : Beam) (opening : Denise) (events : List Event) (bytes : ℕ)
    (chip : ChipValue) : Type 0 where
  pub order : from < c
  pub number : begun run from ≡ n
  pub begin : begins run from ≡ true
  pub inner : (k : ℕ) → from < k → k < c → begins run k ≡ false
  pub running : (k : ℕ) → k < c → (beam_at run k).frame < run.script.frames
  pub place : beam ≡ beam_at run from
  pub stands : StandsFor (4 * beam.h) opening (opening_at run from)
  pub log : events ≡ events_in run from c
  pub size : bytes ≡ length (bytes_from run from (c - from))
  pub base : chip.base ≡ run_memory run from
  pub writes : chip.writes ≡ stores_from run from (c - from)

-- the events of one clock alone, and those that a clock adds to the events of a band: first the write that waited
abbrev pub clock_events : RunValue → ℕ → List Event
clock_events run c = events_of run c 1

abbrev pub waiting_events : RunValue → ℕ → List Event
waiting_events run c = bus_events (c - 1) (write_alone (bus_touch_at run (c - 1)))

-- a band's first clock
abbrev pub BandOpens : Type 0
BandOpens = (run : RunValue) (c : ℕ) (opening : Denise) (chip : ChipValue) → begins run c ≡ true →
    ((k : ℕ) → k < c + 1 → (beam_at run k).frame < run.script.frames) →
    StandsFor (4 * (beam_at run c).h) opening (opening_at run c) →
    chip.base ≡ run_memory run c → chip.writes ≡ stores_at run c →
    IsOpen run (begun run c) c (c + 1) (beam_at run c) opening (clock_events run c) (length (bytes_at run c)) chip

-- a clock with which no band begins
abbrev pub BandGoesOn : Type 0
BandGoesOn = (run : RunValue) (n from c : ℕ) (beam : Beam) (opening : Denise) (events : List Event) (bytes : ℕ) (chip grown : ChipValue) →
    IsOpen run n from c beam opening events bytes chip → begins run c ≡ false → (beam_at run c).frame < run.script.frames →
    grown.base ≡ chip.base → grown.writes ≡ chip.writes ++ stores_at run c →
    IsOpen run n from (c + 1) beam opening (events ++ (waiting_events run c ++ clock_events run c)) (bytes + length (bytes_at run c)) grown

-- a clock with which the next band begins: what was kept, with a view that is cut there, is right for the band
abbrev pub BandCloses : Type 0
BandCloses = (run : RunValue) (n from c : ℕ) (beam : Beam) (opening : Denise) (events : List Event) (bytes : ℕ) (chip : ChipValue) (view : ViewValue) →
    IsOpen run n from c beam opening events bytes chip → begins run c ≡ true → IsViewOf chip c view →
    IsRightJob run n from c beam opening events (word_then view) bytes
