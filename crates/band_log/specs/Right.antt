-- Which jobs and which drawn bands are right for a run and the number of a band.
use Rattle.std.specs.Prelude.{◌≡◌, ◌≤◌, ℕ, length}
use Rattle.std.specs.Arc.{arc_value}
use Rattle.mem_versions.specs.MemView.{Covers, word_then}
use Rattle.serial_model.specs.Side.{SideValue}
use Rattle.serial_bands.specs.Run.{RunValue, run_over}
use Rattle.serial_bands.specs.RightJob.{IsRightJob as AreRightParts}
use Rattle.serial_bands.specs.BandShown.{IsRightUnder}
use Rattle.band_log.specs.declared.job.Job.{Job}
use Rattle.band_log.specs.declared.job.Drawn.{Drawn}

-- Jobs have sides as values of some type, of which `seen` tells what they do.

-- A job is right for a run and the number of a band: it has that run and that number, its view covers
-- each clock from the band's first one to the one behind its last, and what it holds is right for the
-- band: range, beam, opening, events, the memory at each of these clocks, and the size of its room.
pub record IsRightJob {S : Type 0} (seen : S → SideValue) (run : RunValue) (n : ℕ) (job : Job S) : Type 0 where
  pub owner : run_over seen (arc_value job.run) ≡ run
  pub numbered : job.number ≡ n
  pub covered : (c : ℕ) → job.from.0 ≤ c → c ≤ job.to.0 → Covers job.view c
  pub parts : AreRightParts run n job.from.0 job.to.0 job.beam job.picture job.events (word_then job.view) (length job.room)

-- A drawn band is right for a run and a number under a tint, which is a byte: its job has that run,
-- that number and the range of that band, in its room are the pixel bytes that the band shows, each
-- under the tint, its collision bits are the band's, and its picture state stands for the band's closing.
pub record IsRightFor {S : Type 0} (seen : S → SideValue) (tint : ℕ) (run : RunValue) (n : ℕ) (drawn : Drawn S) : Type 0 where
  pub owner : run_over seen (arc_value drawn.job.run) ≡ run
  pub numbered : drawn.job.number ≡ n
  pub shown : IsRightUnder tint run n drawn.job.from.0 drawn.job.to.0 drawn.job.room drawn.clx drawn.job.picture

-- under the tint 0 it is right
abbrev pub IsRightDrawn : {S : Type 0} → (S → SideValue) → RunValue → ℕ → Drawn S → Type 0
IsRightDrawn seen = IsRightFor seen 0
