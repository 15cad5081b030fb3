-- Clocks of a line that are passed in one call, and what a run that goes back begins with.
use Rattle.std.specs.Prelude.{◌≡◌, ◌<◌, ◌≤◌, ◌+◌, ◌-◌, ◌^◌, ℕ, [], None, min, max, false}
use Rattle.ocs_rewind.specs.Ring.{up_to}
use Rattle.serial_model.specs.declared.side.NoSide.{NoSide}
use Rattle.band_log.specs.Raster.{RasterValue}
use Rattle.foreground.specs.Fore.{ForeOf}
use Rattle.rewind_loop.specs.Places.{Place, due_in, reached_from}
use Rattle.rewind_loop.specs.Present.{AreAt, IsPresent, run_in, states_in, fore_of}
use Rattle.rewind_loop.specs.declared.rewind.Rewind.{Rewind}

-- clock 226 of the line, or the next clock where that one has come
abbrev pub line_limit : ℕ → ℕ → ℕ
line_limit t h = min (t + max (226 - h) 1) (2 ^ 64 - 1)

-- the run has come to a later clock, not above one, and no checkpoint is due at those between
pub record GoesOn (clock : ℕ) (old new : Rewind) : Type 0 where
  pub later : old.fore.machine.t < new.fore.machine.t
  pub most : new.fore.machine.t ≤ clock
  pub none : (k : ℕ) → old.fore.machine.t < k → k < new.fore.machine.t → due_in (states_in old) old.every k ≡ false
  pub comes : (keep : ℕ) (p : Place) → IsPresent keep p old → IsPresent keep (record p { now = new.fore.machine.t }) new

-- a raster without bands, whose first is to be of a number
abbrev pub starting_with : ℕ → RasterValue
starting_with band = record { outstanding = []; next = band; bound = None; mark = 0; tint = 0 }

-- this foreground, a raster that starts with a band, and the ring once it is cut after a clock stand at where the clock is reached from
abbrev pub GoesBack : ℕ → Rewind → ForeOf NoSide → ℕ → Type 0
GoesBack clock old fore band =
    (keep : ℕ) (p : Place) → IsPresent keep p old → (raster : RasterValue) → raster ≡ starting_with band
    → AreAt (run_in old) keep (reached_from clock p) (fore_of fore) raster (record old.ring { entries = up_to clock old.ring.entries })
