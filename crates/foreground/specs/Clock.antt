-- The foreground within a clock of a run: what stands before, between and behind its steps.
use Rattle.std.specs.Prelude.{◌≡◌, ◌≤◌, ◌^◌, ℕ, ◌+◌, ◌-◌, min, true, List, [], ◌++◌}
use Rattle.mem_versions.specs.Chip.{ChipValue}
use Rattle.out_files.specs.OutFiles.{OutFilesValue}
use Rattle.serial_model.specs.declared.trace.TraceLine.{TraceLine}
use Rattle.serial_model.specs.State.{State}
use Rattle.serial_bands.specs.Access.{access_state, accessed_state}
use Rattle.serial_bands.specs.Run.{RunValue, state_of}
use Rattle.serial_model.specs.Made.{is_clx_read}
use Rattle.serial_bands.specs.Clock.{made_at}
use Rattle.serial_bands.specs.Bands.{begins, begun, has_read_before}
use Rattle.serial_bands.specs.Gathering.{IsGathered, IsGatheredIn}
use Rattle.band_log.specs.Raster.{RasterValue}
use Rattle.out_files.specs.Gives.{Gives}
use Rattle.machine.specs.Machine.{MachineValue, IsMachineOf}
use Rattle.picture_log.specs.Log.{IsLogOf, IsStarted, IsShown}
use Rattle.band_gather.specs.Gathered.{Fits, KeepsMark, tinted_range}
use Rattle.picture_log.specs.declared.log.Log.{Log}

-- At the start of clock c: machine and log stand there, outstanding are the bands from clock `first` up to the open one, and
-- these are the collision bits of the bands that were gathered since CLXDAT was read.
pub record IsAt (run : RunValue) (c first : ℕ) (m : MachineValue) (log : Log) (clx : ℕ) (seen : RasterValue) : Type 0 where
  pub machine : IsMachineOf m (state_of run c)
  pub logged : IsLogOf run c log m.chip
  pub fits : Fits run log.band.number log.band.from first seen
  pub gathered : IsGathered run c clx first
  -- where the access of the clock before read CLXDAT, a band begins here
  pub cut : has_read_before run c ≡ true → log.band.from ≡ c
  pub time : m.chip.newest ≤ c

-- its band has begun; the collision bits are those behind the script's events
pub record HasBegun (run : RunValue) (c first : ℕ) (m : MachineValue) (log : Log) (clx : ℕ) (seen : RasterValue) : Type 0 where
  pub machine : IsMachineOf m (state_of run c)
  pub logged : IsStarted run c log m.chip
  pub fits : Fits run log.band.number log.band.from first seen
  pub gathered : IsGatheredIn run c clx first
  pub time : m.chip.newest ≤ c

-- behind the picture step: the log, and the machine
pub record IsLogged (run : RunValue) (c first : ℕ) (chip : ChipValue) (log : Log) (clx : ℕ) (seen : RasterValue) : Type 0 where
  pub shown : IsShown run c log chip
  pub fits : Fits run log.band.number log.band.from first seen
  pub gathered : IsGatheredIn run c clx first
  pub time : chip.newest ≤ c

pub record IsBeforeAccess (run : RunValue) (c first : ℕ) (m : MachineValue) (log : Log) (clx : ℕ) (seen : RasterValue) : Type 0 where
  pub machine : IsMachineOf m (access_state run c)
  pub logged : IsLogged run c first m.chip log clx seen

-- behind the access
pub record IsBehindAccess (run : RunValue) (c first : ℕ) (m : MachineValue) (log : Log) (clx : ℕ) (seen : RasterValue) : Type 0 where
  pub machine : IsMachineOf m (accessed_state run c)
  pub logged : IsLogOf run (c + 1) log m.chip
  pub fits : Fits run log.band.number log.band.from first seen
  pub gathered : IsGathered run (c + 1) clx first
  pub cut : is_clx_read (made_at run c) ≡ true → log.band.from ≡ c + 1
  pub time : m.chip.newest ≤ c + 1

-- the lines that the trace has more in one state than in another, and were given to the output files
pub record Tells (before behind : State) (old new : OutFilesValue) : Type 0 where
  pub lines : List TraceLine
  pub trace : behind.trace ≡ before.trace ++ lines
  pub text : Gives old new [] lines

-- what was given to the output files since bands up to clock `first` were gathered: the pixel bytes of those up to clock
-- `until` under the tint, and these lines
pub record HasGiven (run : RunValue) (first until : ℕ) (seen after : RasterValue) (old new : OutFilesValue) (lines : List TraceLine) : Type 0 where
  pub least : first ≤ until
  pub mark : KeepsMark seen after
  pub text : Gives old new (tinted_range run seen.tint first until) lines

-- outstanding are the bands of the run from clock `until` up to a clock with which the next one begins, or at which the run ends
pub record AreLeftFrom (run : RunValue) (until : ℕ) (seen : RasterValue) : Type 0 where
  pub number : ℕ
  pub to : ℕ
  pub fits : Fits run number to until seen
  pub count : begun run to ≡ number
  pub begin : begins run to ≡ true

-- and where memory was wanted: bands up to some clock were gathered, those from there on are outstanding, and a part of the bytes
-- of those that were gathered was given, from the first one on
pub record HasGivenPart (run : RunValue) (first : ℕ) (seen after : RasterValue) (old new : OutFilesValue) : Type 0 where
  pub until : ℕ
  pub least : first ≤ until
  pub left : AreLeftFrom run until after
  pub mark : KeepsMark seen after
  pub part : List ℕ
  pub rest : List ℕ
  pub lines : List TraceLine
  pub split : part ++ rest ≡ tinted_range run seen.tint first until
  pub text : Gives old new part lines

-- a count rose by so much at least, where it has not come to stand still at the greatest number of 64 bits, and so much at most
pub record Rises (least most old new : ℕ) : Type 0 where
  pub least_rise : min (old + least) (2 ^ 64 - 1) ≤ new
  pub most_rise : new ≤ old + most
