-- How far a band is drawn from its job.
use Rattle.std.specs.Prelude.{◌≡◌, ◌≤◌, ◌<◌, ℕ, ◌+◌, ◌-◌, ◌*◌, false, List, length, take, drop}
use Rattle.ocs_base.specs.declared.beam.Beam.{Beam}
use Rattle.mem_versions.specs.MemView.{ViewValue, Covers, word_then}
use Rattle.serial_model.specs.Beam.{place_of}
use Rattle.serial_model.specs.declared.picture.Denise.{Denise}
use Rattle.serial_bands.specs.declared.event.Event.{Event}
use Rattle.serial_bands.specs.Run.{RunValue, beam_at}
use Rattle.serial_bands.specs.Clock.{sets_at, opening_at}
use Rattle.serial_bands.specs.Bands.{begins, IsBand}
use Rattle.serial_bands.specs.BandShown.{bytes_from, clx_from, IsRightDrawn}
use Rattle.serial_bands.specs.ReplayLaws.{after_kept}
use Rattle.serial_bands.specs.RightJob.{HasMemory, events_from}
use Rattle.serial_model.specs.StandsFor.{StandsFor}
use Rattle.band_draw.specs.BandPainter.{IsBandPainterOf}
use Rattle.band_draw.specs.code.Due.{IsLeft}
use Rattle.band_draw.specs.declared.progress.Progress.{Progress}

-- what a band is drawn from: no other begins within it, and a view has the run's memory at each of its clocks
pub record IsSource (run : RunValue) (from to : ℕ) (view : ViewValue) : Type 0 where
  pub inner : (c : ℕ) → from < c → c < to → begins run c ≡ false
  pub covered : (c : ℕ) → from ≤ c → c ≤ to → Covers view c
  pub memory : HasMemory run from to (word_then view)

-- places with the same frame, line and clock, whatever LOF is
pub record IsSamePlace (b other : Beam) : Type 0 where
  pub frame : b.frame ≡ other.frame
  pub line : b.v ≡ other.v
  pub clock : b.h ≡ other.h

-- It has come to its clock: a picture state stands for the opening of the clock, and the events and the script's events that are
-- left are those of the clock.
pub record IsReached (run : RunValue) (events : List Event) (p : Progress) : Type 0 where
  pub picture : Denise
  pub stands : StandsFor (4 * (beam_at run p.clock).h) picture (opening_at run p.clock)
  pub least : p.from ≤ p.clock
  pub most : p.clock < p.to
  pub log : drop p.next events ≡ events_from run p.clock (p.to - p.clock - 1)
  pub place : IsSamePlace p.beam (beam_at run p.clock)
  pub sets : p.sets ≡ length (sets_at run p.clock)
  pub left : IsLeft (place_of p.beam + 1) run.script.events (drop p.due.next run.script.events)
  pub due : p.due.next ≤ length run.script.events
  pub next : p.next ≤ length events

-- the room is filled by the clocks up to, not including, clock c, whose collision bits are gathered
pub record IsFilled (run : RunValue) (c : ℕ) (room : List ℕ) (p : Progress) : Type 0 where
  pub shown : take p.filled room ≡ bytes_from run p.from (c - p.from)
  pub gathered : p.clx ≡ clx_from run p.from (c - p.from)
  pub count : p.filled ≡ length (bytes_from run p.from (c - p.from))
  pub size : length room ≡ length (bytes_from run p.from (p.to - p.from))

-- It is drawn up to, not including, its clock, from so many of the events, and with so many bytes of the room filled: what
-- paints does so from a picture state that stands for the opening of the clock.
pub record IsAt (run : RunValue) (events : List Event) (room : List ℕ) (p : Progress) : Type 0 where
  pub reached : IsReached run events p
  pub painted : IsBandPainterOf (4 * p.beam.h) p.painter reached.picture
  -- where no loads are kept, another line starts in the band: a line has at most 228 clocks
  pub kept : p.painter.keeps ≡ false → p.clock + 228 < p.to + p.beam.h
  pub filled : IsFilled run p.clock room p

-- The script's events of its clock and the picture step of it are done, and nothing of the clock's access.
pub record IsShown (run : RunValue) (events : List Event) (p : Progress) : Type 0 where
  pub reached : IsReached run events p
  pub painted : IsBandPainterOf (4 * p.beam.h + 4) p.painter (after_kept run p.clock reached.picture)
  pub kept : p.painter.keeps ≡ false → p.clock + 228 < p.to + p.beam.h

-- what was drawn is right for the band of that range
abbrev pub IsEnded : RunValue → ℕ → ℕ → List ℕ → Denise → ℕ → Type 0
IsEnded run from to room closing clx = (n : ℕ) → IsBand run n from to → IsRightDrawn run n from to room clx closing
