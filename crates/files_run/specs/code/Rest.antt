-- What a run does of its files before its first clock and behind its last.
use Rattle.std.specs.Prelude.{◌≡◌, ◌⊎◌, ℕ, List, Option}
use Rattle.ocs_base.specs.Script.{ScriptValue}
use Rattle.ocs_io.specs.Place.{Files}
use Rattle.out_files.specs.OutFiles.{OutNames, OutFilesValue}
use Rattle.out_files.specs.Together.{Completes, LeavesParts}
use Rattle.serial_model.specs.Side.{SideValue}
use Rattle.files_run.specs.Audio.{grown_audio, MayHaveGrown}
use Rattle.files_run.specs.Prefix.{LeavesFiles}

-- some of the files were created, and the others are as before: of whatever run they are, each has a part of its text
abbrev pub MayHaveCreated : Option (List ℕ) → OutNames → Option Files → Option Files → Type 0
MayHaveCreated audio names before after =
    (side : SideValue) (image : List ℕ) (script : ScriptValue) → LeavesFiles audio side image script names before after

-- the memory file was completed, and then the audio file
pub record WritesRest (audio : Option (List ℕ)) (out : OutFilesValue) (memory bytes : List ℕ) (before after : Option Files) : Type 0 where
  pub mid : Option Files
  pub completes : Completes out before mid memory
  pub grown : after ≡ grown_audio audio mid bytes

-- the memory file was completed, and the audio file in part
pub record WritesAudioPart (audio : Option (List ℕ)) (out : OutFilesValue) (memory bytes : List ℕ) (before after : Option Files) : Type 0 where
  pub mid : Option Files
  pub completes : Completes out before mid memory
  pub grown : MayHaveGrown audio bytes mid after

-- the memory file was completed in part, or the audio file behind it
abbrev pub WritesPart : Option (List ℕ) → OutFilesValue → List ℕ → List ℕ → Option Files → Option Files → Type 0
WritesPart audio out memory bytes before after =
    LeavesParts out before after memory ⊎ WritesAudioPart audio out memory bytes before after
