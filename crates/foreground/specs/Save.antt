-- What it is to save a foreground.
use Rattle.std.specs.Prelude.{◌≡◌, ℕ, []}
use Rattle.out_files.specs.OutFiles.{OutFilesValue}
use Rattle.serial_model.specs.Side.{SideValue}
use Rattle.serial_bands.specs.Run.{RunValue}
use Rattle.band_log.specs.Raster.{RasterValue, Takes}
use Rattle.foreground.specs.Clock.{HasGiven}
use Rattle.foreground.specs.Fore.{ForeValue, IsUnderway}
use Rattle.foreground.specs.Steps.{KeepsMachine}
use Rattle.foreground.specs.Checkpoint.{CheckpointOf, IsCheckpointOf}

-- The band that was open has ended before the present clock, or one begins there anyway, and all bands are gathered: the foreground stands for the
-- state for which it stood, the output files were given the pixels of these bands, and nothing is outstanding.
pub record HasSaved (old new : ForeValue) (first : ℕ) (seen after : RasterValue) (out given : OutFilesValue) : Type 0 where
  pub same : KeepsMachine old new
  pub words : new.machine.chip.words ≡ old.machine.chip.words
  pub begin : new.log.band.from ≡ new.machine.t
  pub stands : IsUnderway new old.machine.t after
  pub gathered : after.outstanding ≡ []
  pub gives : HasGiven old.run first old.machine.t seen after out given []

abbrev pub Saves : ForeValue → ForeValue → RasterValue → RasterValue → OutFilesValue → OutFilesValue → Type 0
Saves old new seen after out given = (first : ℕ) → IsUnderway old first seen → HasSaved old new first seen after out given

-- the checkpoint stands for the state for which the foreground stood
abbrev pub IsSaved : {S : Type 0} → (S → SideValue) → ForeValue → RasterValue → CheckpointOf S → Type 0
IsSaved seen fore raster k = (first : ℕ) → IsUnderway fore first raster → IsCheckpointOf seen fore.run fore.machine.t k

-- A foreground goes on from a checkpoint: it stands for the state for which that stands, and a raster fits which has nothing outstanding, whose next
-- band has the number that is kept, and which takes bands of the run.
abbrev pub GoesOnFrom : {S : Type 0} → (S → SideValue) → CheckpointOf S → ForeValue → Type 0
GoesOnFrom seen k fore =
    (run : RunValue) (t : ℕ) (raster : RasterValue) → IsCheckpointOf seen run t k → raster.outstanding ≡ [] → raster.next ≡ k.number
    → Takes raster.bound run → IsUnderway fore t raster
