-- Laws of right jobs, of what is drawn of them, and of the order in which rasters give bands back.
use Rattle.std.specs.Prelude.{◌≡◌, ◌<◌, ◌≤◌, ◌^◌, ℕ, true, length}
use Rattle.std.specs.Arc.{arc_value}
use Rattle.ocs_base.specs.declared.addr.Addr.{Addr}
use Rattle.ocs_base.specs.Limits.{IsRunnable}
use Rattle.mem_versions.specs.Chip.{ChipValue}
use Rattle.mem_versions.specs.MemView.{IsViewOf, word_then}
use Rattle.serial_model.specs.Made.{word_of}
use Rattle.serial_model.specs.Side.{SideValue}
use Rattle.serial_bands.specs.Run.{RunValue, run_over, run_memory}
use Rattle.serial_bands.specs.Bands.{begins}
use Rattle.serial_bands.specs.OpenBand.{IsOpen}
use Rattle.band_log.specs.declared.job.Job.{Job}
use Rattle.band_log.specs.declared.job.Drawn.{Drawn}
use Rattle.band_log.specs.Right.{IsRightJob, IsRightFor}
use Rattle.band_log.specs.Raster.{RasterValue, with_submitted, without_first}

-- A job made of a band that was kept clock by clock is right for its own run and number, where the
-- next band begins at its end, and its view is cut there from a memory that was cut at its begin.
abbrev pub EndedBandIsRight : {S : Type 0} → (S → SideValue) → Type 0
EndedBandIsRight {S} seen = (job : Job S) (chip : ChipValue) →
    IsOpen (run_over seen (arc_value job.run)) job.number job.from.0 job.to.0 job.beam job.picture job.events (length job.room) chip →
    begins (run_over seen (arc_value job.run)) job.to.0 ≡ true →
    chip.last ≡ job.from.0 →
    IsViewOf chip job.to.0 job.view →
    IsRightJob seen (run_over seen (arc_value job.run)) job.number job

-- a right job's view gives the run's memory at each clock of its band and at that behind its last
abbrev pub ViewIsMemory : {S : Type 0} → (S → SideValue) → Type 0
ViewIsMemory {S} seen = (run : RunValue) (n c : ℕ) (at : Addr) (job : Job S) → IsRightJob seen run n job →
    job.from.0 ≤ c → c ≤ job.to.0 → word_then job.view c at ≡ word_of (run_memory run c) at.value

-- there are fewer bands than 2^32 in a run of a script in its limits
abbrev pub RightNumbersAreFew : {S : Type 0} → (S → SideValue) → Type 0
RightNumbersAreFew {S} seen = (run : RunValue) (n : ℕ) (job : Job S) → IsRunnable run.script → IsRightJob seen run n job → n < 2 ^ 32

-- what was drawn is of the one range that a right job for the same run and number has
abbrev pub DrawnIsOfRange : {S : Type 0} → (S → SideValue) → Type 0
DrawnIsOfRange {S} seen = (tint : ℕ) (run : RunValue) (n : ℕ) (job : Job S) (drawn : Drawn S) →
    IsRightJob seen run n job → IsRightFor seen tint run n drawn →
    (drawn.job.from.0 ≡ job.from.0) × (drawn.job.to.0 ≡ job.to.0)

-- a raster gives first what was submitted first: where a band is outstanding it makes no difference
-- whether it is taken away before or after another is submitted
abbrev pub FirstComesFirst : Type 0
FirstComesFirst = (run : RunValue) (n : ℕ) (raster : RasterValue) → 0 < length raster.outstanding →
    without_first (with_submitted run n raster) ≡ with_submitted run n (without_first raster)
