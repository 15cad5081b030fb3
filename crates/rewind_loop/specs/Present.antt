-- A run that stands at a place: what its foreground, its raster and its ring of checkpoints are then.
use Rattle.std.specs.Prelude.{◌≡◌, ◌≤◌, ℕ, false, List, map, All}
use Rattle.std.specs.Arc.{arc_value}
use Rattle.ocs_rewind.specs.Ring.{RingOf, EntryOf}
use Rattle.serial_model.specs.Side.{no_side}
use Rattle.serial_model.specs.State.{State}
use Rattle.serial_model.specs.declared.side.NoSide.{NoSide}
use Rattle.serial_bands.specs.Run.{RunOf, RunValue, run_over, state_of}
use Rattle.band_log.specs.Raster.{RasterValue}
use Rattle.band_draw.specs.Direct.{DirectValue, seen_of}
use Rattle.foreground.specs.Checkpoint.{CheckpointOf, IsCheckpointOf}
use Rattle.foreground.specs.Fore.{ForeOf, ForeValue, over, IsUnderway}
use Rattle.rewind_loop.specs.Places.{Place}
use Rattle.rewind_loop.specs.declared.rewind.Rewind.{Rewind}

-- a run without a side, its foreground, a raster that draws at once, and a checkpoint
abbrev pub run_of : RunOf NoSide → RunValue
run_of run = run_over (λ side. no_side) run

abbrev pub fore_of : ForeOf NoSide → ForeValue
fore_of fore = over (λ side. no_side) fore

abbrev pub raster_of : DirectValue NoSide → RasterValue
raster_of raster = seen_of (λ side. no_side) raster

abbrev pub Checkpoint : Type 0
Checkpoint = CheckpointOf NoSide

-- the clock of an entry
abbrev pub clock_of : EntryOf Checkpoint → ℕ
clock_of entry = entry.at.0

-- an entry of a ring is the state of its clock
abbrev pub IsEntryOf : RunValue → EntryOf Checkpoint → Type 0
IsEntryOf run entry = IsCheckpointOf (λ side. no_side) run entry.at.0 entry.state

-- a ring of at most `keep` checkpoints of a run, of these clocks
pub record AreKept (run : RunValue) (keep : ℕ) (clocks : List ℕ) (ring : RingOf Checkpoint) : Type 0 where
  pub clocks_are : map clock_of ring.entries ≡ clocks
  pub room : ring.keep ≡ keep
  pub each : All (IsEntryOf run) ring.entries

-- foreground, raster and ring of a run stand at a place
pub record AreAt (run : RunValue) (keep : ℕ) (p : Place) (fore : ForeValue) (raster : RasterValue) (ring : RingOf Checkpoint) : Type 0 where
  pub first : ℕ
  pub stands : IsUnderway fore first raster
  pub run_is : fore.run ≡ run
  pub fresh : fore.spent ≡ false
  pub here : fore.machine.t ≡ p.now
  pub kept : AreKept run keep p.ring ring
  pub below : All (λ entry. clock_of entry ≤ p.now) ring.entries

-- the run that is gone back in, and the states in which its clocks begin
abbrev pub run_in : Rewind → RunValue
run_in rewind = run_of (arc_value rewind.run)

abbrev pub states_in : Rewind → ℕ → State
states_in rewind = state_of (run_in rewind)

abbrev pub IsPresent : ℕ → Place → Rewind → Type 0
IsPresent keep p rewind = AreAt (run_in rewind) keep p (fore_of rewind.fore) (raster_of rewind.raster) rewind.ring
