-- How far the fetches of bitplanes have come before the clocks that are shown.
use Rattle.std.specs.Prelude.{◌≡◌, ◌≤◌, ◌<◌, ℕ, ◌+◌, ◌-◌, ◌*◌, List, length, drop, Option, None, Some, Bool, false, nat_le}
use Rattle.serial_model.specs.declared.picture.Denise.{Denise}
use Rattle.serial_bands.specs.declared.event.Event.{Event}
use Rattle.serial_bands.specs.declared.event.Event.TheVariants as E
use Rattle.serial_bands.specs.Run.{RunValue, beam_at}
use Rattle.serial_bands.specs.RightJob.{events_from}
use Rattle.serial_bands.specs.Spans.{AreQuiet, fetched}
use Rattle.band_draw.specs.BandPainter.{IsBandPainterOf}
use Rattle.band_draw.specs.code.Progress.{IsSamePlace}
use Rattle.band_draw.specs.declared.progress.Progress.{Progress}

-- the place and the events that are left are those of the clock that comes next
pub record IsPlaced (run : RunValue) (events : List Event) (p : Progress) : Type 0 where
  pub least : p.from ≤ p.clock
  pub most : p.clock < p.to
  pub place : IsSamePlace p.beam (beam_at run p.clock)
  pub log : drop p.next events ≡ events_from run p.clock (p.to - p.clock - 1)
  pub next : p.next ≤ length events

-- The fetches of the clocks up to, not including, clock m have been made, and nothing else touches the picture at these: what
-- paints does so, from the position of clock m on, of the picture state with these fetches.
pub record IsFetched (run : RunValue) (events : List Event) (old new : Progress) (m : ℕ) : Type 0 where
  pub least : old.clock ≤ m
  pub quiet : AreQuiet run old.clock m
  pub log : drop new.next events ≡ events_from run m (old.to - m - 1)
  pub next : new.next ≤ length events
  pub painted : (from : ℕ) (p : Denise) → 4 * (old.beam.h + (m - old.clock)) ≤ from →
      IsBandPainterOf (4 * old.beam.h) old.painter p → IsBandPainterOf from new.painter (fetched run old.clock (m - old.clock) p)
  pub keeps : new.painter.keeps ≡ old.painter.keeps
  pub same : new ≡ record old { painter = new.painter; next = new.next }

-- the first clock that an event may touch, a write that of the access before it, or another clock where there is none
abbrev pub first_clock : ℕ → Option Event → ℕ
first_clock other None = other
first_clock other (Some (E.Set at reg word)) = at.0 - 1
first_clock other (Some (E.Plane at plane addr)) = at.0
first_clock other (Some (E.Sprite at sprite second addr)) = at.0

-- whether it is the fetch of a sprite by a clock or the next one
abbrev pub sprite_by : ℕ → Option Event → Bool
sprite_by clock None = false
sprite_by clock (Some (E.Set at reg word)) = false
sprite_by clock (Some (E.Plane at plane addr)) = false
sprite_by clock (Some (E.Sprite at sprite second addr)) = nat_le (at.0 - 1) clock
