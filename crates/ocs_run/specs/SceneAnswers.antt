-- What stands after the command that summarizes a scene.
use Rattle.std.specs.Prelude.{◌≡◌, ℕ, List, take, codes, Some, Result, Ok, Err}
use Rattle.std.specs.FinMap.{empty}
use Rattle.ocs_io.specs.Place.{Files, Outside, Rose, said_more}
use Rattle.out_files.specs.OutFiles.{OutNames}
use Rattle.scene_gen.specs.Scene.{scene_image, scene_script}
use Rattle.run_inputs.specs.Texts.{KeepsSaid}
use Rattle.files_run.specs.Run.{HasFiles}
use Rattle.ocs_run.specs.SceneSummary.{IsSummary}
use Rattle.ocs_words.specs.declared.fault.Fault.{Fault}
use Rattle.ocs_words.specs.declared.fault.Fault.TheVariants.{Usage, Inputs, BadTrack, UnreadTrack, Unwritten, Unsaid, OutOfMemory}

-- the summary was said, whole
pub record SaysSummary (number : ℕ) (old new : Outside) : Type 0 where
  pub text : List ℕ
  pub summary : IsSummary number text
  pub said : new.said ≡ said_more old.said text

-- the outside refused to say the summary: a part of it was said, from the first byte on
pub record SaysSummaryPart (number : ℕ) (old new : Outside) : Type 0 where
  pub text : List ℕ
  pub summary : IsSummary number text
  pub count : ℕ
  pub said : new.said ≡ said_more old.said (take count text)
  pub refused : Rose old.say_faults new.say_faults

-- what was said before the text of a fault
abbrev pub SceneAnswers : ℕ → Outside → Outside → Result (Unit {0}) Fault → Type 0
SceneAnswers number old new (Ok done) = SaysSummary number old new
SceneAnswers number old new (Err Usage) = ⊥
SceneAnswers number old new (Err (Inputs fault)) = ⊥
SceneAnswers number old new (Err BadTrack) = ⊥
SceneAnswers number old new (Err UnreadTrack) = ⊥
SceneAnswers number old new (Err (Unwritten output)) = ⊥
SceneAnswers number old new (Err Unsaid) = SaysSummaryPart number old new
SceneAnswers number old new (Err OutOfMemory) = KeepsSaid old new

-- the names of the files on the place of its own
abbrev pub scene_names : OutNames
scene_names = record { frames = codes "frames"; trace = codes "trace"; memory = codes "memory" }

-- that place, empty before, has the three files of the scene's run
abbrev pub HasSceneFiles : ℕ → Files → Type 0
HasSceneFiles number files = HasFiles (scene_image number) (scene_script number) scene_names (Some empty) (Some files)
