-- Clocks at which nobody asks for the bus and nothing is due, passed over at once.
use Rattle.std.specs.Prelude.{◌≡◌, ◌≤◌, ◌<◌, ◌-◌, ◌+◌, ℕ}
use Rattle.out_files.specs.OutFiles.{OutFilesValue}
use Rattle.serial_bands.specs.BusReads.{bus_reads}
use Rattle.band_log.specs.Raster.{RasterValue}
use Rattle.foreground.specs.Fore.{ForeValue}
use Rattle.clock_loop.specs.RunTo.{RunsOn}

-- some clocks or none were passed over, up to the limit at most: they read no word, and nothing was given to the output files
pub record HasPassed (limit : ℕ) (old new : ForeValue) : Type 0 where
  pub spent : new.spent ≡ old.spent
  pub on : old.machine.t ≤ new.machine.t
  pub most : new.machine.t ≤ limit
  pub quiet : (k : ℕ) → k < new.machine.t - old.machine.t → bus_reads old.run (old.machine.t + k) ≡ 0
  pub runs : (seen : RasterValue) (out : OutFilesValue) → RunsOn old new seen seen out out
