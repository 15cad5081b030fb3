-- Which jobs and which drawn bands are right for the bands of a run over a side. `seen` tells what a side does.
use Rattle.std.specs.Prelude.{◌<◌, ◌^◌, ℕ}
use Rattle.ocs_base.specs.Limits.{IsRunnable}
use Rattle.serial_model.specs.Side.{SideValue}
use Rattle.serial_bands.specs.Run.{RunOf, run_over}
use Rattle.serial_bands.proofs.WholeRun.{number_is_small}
use Rattle.band_log.specs.declared.job.Job.{Job}
use Rattle.band_log.specs.declared.job.Drawn.{Drawn}
use Rattle.band_log.specs.Right.{IsRightJob, IsRightDrawn}

-- the job is right for a run, whose script is in its limits, and for the number of a band
abbrev pub IsRightBand : {S : Type 0} → (S → SideValue) → RunOf S → ℕ → Job S → Type 0
IsRightBand seen run n job = IsRunnable run.script × IsRightJob seen (run_over seen run) n job

-- what was drawn is right for a run and for the number of a band, under the tint 0
abbrev pub IsDrawnBand : {S : Type 0} → (S → SideValue) → RunOf S → ℕ → Drawn S → Type 0
IsDrawnBand seen run n drawn = IsRightDrawn seen (run_over seen run) n drawn

-- the number of a right job is below 2^32
pub few_bands : {S : Type 0} (seen : S → SideValue) (run : RunOf S) (n : ℕ) (job : Job S) → IsRightBand seen run n job → n < 2 ^ 32
few_bands seen run n job right = number_is_small (run_over seen run) n job.from.0 job.to.0 right.0 right.1.parts.band
