-- Many clocks of the foreground in one call.
use Rattle.std.specs.Prelude.{◌≡◌, ◌≤◌, ℕ, zero, suc, ◌+◌, max, if◌then◌else◌, false, List, ◌++◌, length}
use Rattle.out_files.specs.OutFiles.{OutFilesValue}
use Rattle.serial_model.specs.declared.trace.TraceLine.{TraceLine}
use Rattle.serial_bands.specs.Run.{RunValue, state_of, beam_at}
use Rattle.serial_bands.specs.Bands.{is_band_place}
use Rattle.serial_bands.specs.BusReads.{bus_reads, word_registers}
use Rattle.band_log.specs.Raster.{RasterValue}
use Rattle.foreground.specs.Clock.{HasGiven, Rises}
use Rattle.foreground.specs.Fore.{ForeValue, IsUnderway, is_done}

-- Some clocks were done: it stands for the state behind them, and the output files were given the pixels of the bands that were gathered, under the
-- raster's tint, and the lines that these clocks add to the trace.
pub record HasRunOn (old new : ForeValue) (first : ℕ) (seen after : RasterValue) (out given : OutFilesValue) : Type 0 where
  pub until : ℕ
  pub stands : IsUnderway new until after
  pub lines : List TraceLine
  pub trace : (state_of old.run new.machine.t).trace ≡ (state_of old.run old.machine.t).trace ++ lines
  pub gives : HasGiven old.run first until seen after out given lines

abbrev pub RunsOn : ForeValue → ForeValue → RasterValue → RasterValue → OutFilesValue → OutFilesValue → Type 0
RunsOn old new seen after out given = (first : ℕ) → IsUnderway old first seen → HasRunOn old new first seen after out given

-- they are all that come before the limit, or the run has come to its end
pub record HasCome (limit : ℕ) (old new : ForeValue) : Type 0 where
  pub on : old.machine.t ≤ new.machine.t
  pub most : new.machine.t ≤ max old.machine.t limit
  pub all : is_done new ≡ false → new.machine.t ≡ max old.machine.t limit

-- how many words of chip memory the accesses of so many clocks need, from one on
abbrev pub reads_from : RunValue → ℕ → ℕ → ℕ
reads_from run from zero = 0
reads_from run from (suc clocks) = reads_from run from clocks + bus_reads run (from + clocks)

-- and how many at most are looked up at the ends of bands: no more than there are registers of words at each place where one begins
abbrev pub looked_from : RunValue → ℕ → ℕ → ℕ
looked_from run from zero = 0
looked_from run from (suc clocks) =
    looked_from run from clocks + (if is_band_place run.height (beam_at run (from + clocks)) then length word_registers else 0)

-- so the count of reads rises by so much
abbrev pub RisesIn : RunValue → ℕ → ℕ → ℕ → ℕ → Type 0
RisesIn run from clocks = Rises (reads_from run from clocks) (reads_from run from clocks + looked_from run from clocks)

-- where memory was wanted: by no more than in some of the clocks
pub record RisesInSome (limit : ℕ) (run : RunValue) (from old new : ℕ) : Type 0 where
  pub clocks : ℕ
  pub most : from + clocks ≤ max from limit
  pub few : Rises 0 (reads_from run from clocks + looked_from run from clocks) old new
