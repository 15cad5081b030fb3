-- The foreground as contracts see it.
use Rattle.std.specs.Prelude.{◌≡◌, ◌≤◌, ◌<◌, ◌==◌, if◌then◌else◌, ℕ, ◌+◌, Bool, false, List, [], ◌++◌, length, drop}
use Rattle.out_files.specs.OutFiles.{OutFilesValue}
use Rattle.serial_model.specs.Beam.{IsOnScreen, place_of}
use Rattle.serial_model.specs.Events.{due_events}
use Rattle.serial_model.specs.Side.{SideValue}
use Rattle.serial_model.specs.declared.trace.TraceLine.{TraceLine}
use Rattle.ocs_base.specs.declared.beam.Beam.{Beam}
use Rattle.serial_bands.specs.Run.{RunOf, RunValue, run_over, IsEndOf, IsGoodRun, state_of, beam_at}
use Rattle.serial_bands.specs.Bands.{begun, is_band_place}
use Rattle.serial_bands.specs.BusReads.{latched_words}
use Rattle.band_log.specs.Raster.{RasterValue, Takes}
use Rattle.foreground.specs.Clock.{IsAt, HasGiven, HasGivenPart}
use Rattle.machine.specs.Machine.{MachineValue, machine_over, IsMachineOf}
use Rattle.foreground.specs.Script.{IsLeft}
use Rattle.picture_log.specs.declared.log.Log.{Log}
use Rattle.machine.specs.declared.machine.Machine.{Machine}

-- the foreground as it is kept, of a run over a side of some type
pub record ForeOf (S : Type 0) : Type 0 where
  pub run : RunOf S
  pub machine : Machine S
  pub log : Log
  pub next : ℕ
  pub clx : ℕ
  pub spent : Bool

-- with what run and machine are over
pub record ForeValue : Type 0 where
  pub run : RunValue
  pub machine : MachineValue
  pub log : Log
  -- how many of the script's events have happened
  pub next : ℕ
  -- the collision bits of the bands that were gathered since CLXDAT was last read
  pub clx : ℕ
  -- whether memory was wanted before
  pub spent : Bool

abbrev pub over : {S : Type 0} → (S → SideValue) → ForeOf S → ForeValue
over seen fore = record {
  run = run_over seen fore.run;
  machine = machine_over seen fore.machine;
  log = fore.log;
  next = fore.next;
  clx = fore.clx;
  spent = fore.spent;
}

-- the script's events that are left at a place of the beam
pub record HasScript (run : RunValue) (b : Beam) (next : ℕ) : Type 0 where
  pub within : next ≤ length run.script.events
  pub left : IsLeft (place_of b) (drop next run.script.events)
  pub same : (later : Beam) → IsOnScreen later → place_of b ≤ place_of later →
      due_events later run.script.events ≡ due_events later (drop next run.script.events)

-- It stands for the state of its clock, which is a clock of the run or its end, and a raster fits it: outstanding there are the bands from
-- clock `first` up to the open one.
pub record IsUnderway (fore : ForeValue) (first : ℕ) (seen : RasterValue) : Type 0 where
  pub good : IsGoodRun fore.run
  pub at : IsAt fore.run fore.machine.t first fore.machine fore.log fore.clx seen
  pub running : (k : ℕ) → k < fore.machine.t → (beam_at fore.run k).frame < fore.run.script.frames
  pub frame : fore.machine.beam.frame ≤ fore.run.script.frames
  pub screen : IsOnScreen fore.machine.beam
  pub count : fore.machine.t ≤ place_of fore.machine.beam
  pub script : HasScript fore.run fore.machine.beam fore.next

-- a raster fits, or memory was wanted before
abbrev pub CanGo : ForeValue → RasterValue → Type 0
CanGo fore seen = fore.spent ≡ false → (first : ℕ) × IsUnderway fore first seen

-- the run has come to its end
abbrev pub is_done : ForeValue → Bool
is_done fore = fore.machine.beam.frame == fore.run.script.frames

-- a new one, at clock 0 of a run: a raster with nothing outstanding that takes bands of the run fits
pub record IsNew (run : RunValue) (fore : ForeValue) : Type 0 where
  pub run_of : fore.run ≡ run
  pub fresh : fore.spent ≡ false
  pub clock : fore.machine.t ≡ 0
  pub reads : fore.machine.chip.reads ≡ 0
  pub fits : (seen : RasterValue) → seen.outstanding ≡ [] → seen.next ≡ 0 → Takes seen.bound run → IsUnderway fore 0 seen

-- One clock was done: it stands for the state behind it, and the output files were given the pixels of the bands that were gathered, under the
-- raster's tint, and the lines that the clock adds to the trace.
pub record HasAdvanced (old new : ForeValue) (first : ℕ) (seen after : RasterValue) (out given : OutFilesValue) : Type 0 where
  pub until : ℕ
  pub stands : IsUnderway new until after
  pub lines : List TraceLine
  pub trace : (state_of old.run (old.machine.t + 1)).trace ≡ (state_of old.run old.machine.t).trace ++ lines
  pub gives : HasGiven old.run first until seen after out given lines

abbrev pub Advances : ForeValue → ForeValue → RasterValue → RasterValue → OutFilesValue → OutFilesValue → Type 0
Advances old new seen after out given = (first : ℕ) → IsUnderway old first seen → HasAdvanced old new first seen after out given

-- memory was wanted: a part of the pixels of the bands that were gathered was given, from the first of those outstanding on
abbrev pub GivesPart : ForeValue → RasterValue → RasterValue → OutFilesValue → OutFilesValue → Type 0
GivesPart old seen after out given = (first : ℕ) → IsUnderway old first seen → HasGivenPart old.run first seen after out given

-- how many words the band that ends before this clock leaves to be looked up, if one ends
abbrev pub looked_up : ForeValue → ℕ
looked_up fore =
    if is_band_place fore.run.height fore.machine.beam then latched_words fore.run fore.log.band.from fore.machine.t else 0

-- It is settled: the run has come to its end, all its bands are gathered, and the memory is the run's last.
pub record IsSettled (fore : ForeValue) (after : RasterValue) : Type 0 where
  pub machine : IsMachineOf fore.machine (state_of fore.run fore.machine.t)
  pub end : IsEndOf fore.run fore.machine.t
  pub gathered : after.outstanding ≡ []
  pub next : after.next ≡ begun fore.run fore.machine.t

pub record HasSettled (old new : ForeValue) (first : ℕ) (seen after : RasterValue) (out given : OutFilesValue) : Type 0 where
  pub same : new.run ≡ old.run
  pub clock : new.machine.t ≡ old.machine.t
  pub settled : IsSettled new after
  pub gives : HasGiven old.run first old.machine.t seen after out given []

abbrev pub Settles : ForeValue → ForeValue → RasterValue → RasterValue → OutFilesValue → OutFilesValue → Type 0
Settles old new seen after out given = (first : ℕ) → IsUnderway old first seen → HasSettled old new first seen after out given
