-- What stands after a command.
use Rattle.std.specs.Prelude.{◌≡◌, ℕ, List, [], Option, Some, Result, Ok, Err}
use Rattle.ocs_base.specs.Script.{ScriptValue}
use Rattle.ocs_base.specs.declared.system.System.{System}
use Rattle.ocs_io.specs.Answers.{WhereTold}
use Rattle.ocs_io.specs.Place.{Files, Outside, Rose}
use Rattle.out_files.specs.OutFiles.{OutNames, OutFilesValue}
use Rattle.ocs_words.specs.declared.fault.Fault.{Fault}
use Rattle.ocs_words.specs.declared.fault.Fault.TheVariants.{Usage, Inputs, BadTrack, UnreadTrack, Unwritten, Unsaid, OutOfMemory}
use Rattle.ocs_words.specs.Fault.{IsOutputOf}
use Rattle.run_inputs.specs.Inputs.{HoldsRun, IsInputFault}
use Rattle.ocs_words.specs.Order.{OrderValue, HasTrack, audio_of}
use Rattle.files_run.specs.Run.{HasAllFiles}
use Rattle.files_run.specs.Prefix.{LeavesFiles}
use Rattle.ocs_run.specs.Verdict.{Verdict, Usage as UsageVerdict, Absent, BadImage as BadImageVerdict, BadScript as BadScriptVerdict}
use Rattle.ocs_run.specs.Verdict.{BadTrack as BadTrackVerdict, Good, Scene, Rewind, of_order}
use Rattle.serial_model.specs.Side.{SideValue}

-- the names of the files that a run writes
abbrev pub out_names : OrderValue → OutNames
out_names order = record { frames = order.frames; trace = order.trace; memory = order.memory }

-- new output files of these names, of a machine of this system
pub record IsOutOf (names : OutNames) (system : System) (out : OutFilesValue) : Type 0 where
  pub named : out.names ≡ names
  pub kind : out.system ≡ system
  pub frames : out.frames ≡ []
  pub trace : out.trace ≡ []
  pub given : out.given ≡ 0

-- the files of a run that came to its end, or was stopped
abbrev pub HasOrdered : OrderValue → List ℕ → ScriptValue → SideValue → Option Files → Option Files → Type 0
HasOrdered order image script side old new = HasAllFiles (audio_of order.extra) side image script (out_names order) old new

abbrev pub LeavesOrdered : OrderValue → List ℕ → ScriptValue → SideValue → Option Files → Option Files → Type 0
LeavesOrdered order image script side old new = LeavesFiles (audio_of order.extra) side image script (out_names order) old new

-- done: the files of a run are its texts, whole, and every other file is as before; a scene and a rewind leave all files as before
abbrev pub IsDone : Verdict → Files → Option Files → Type 0
IsDone (Good image script order side) files new = HasOrdered order image script side (Some files) new
IsDone (Scene number band workers) files new = new ≡ Some files
IsDone (Rewind image script every keep clocks) files new = new ≡ Some files
IsDone UsageVerdict files new = ⊥
IsDone (Absent name) files new = ⊥
IsDone BadImageVerdict files new = ⊥
IsDone (BadScriptVerdict line kind) files new = ⊥
IsDone BadTrackVerdict files new = ⊥

-- stopped by a file that could not be written, which only a good verdict comes to; or by a summary or lines that could not be said,
-- and then all files are as before
abbrev pub IsUnwritten : Verdict → Files → Option Files → Type 0
IsUnwritten (Good image script order side) files new = LeavesOrdered order image script side (Some files) new
IsUnwritten (Scene number band workers) files new = new ≡ Some files
IsUnwritten (Rewind image script every keep clocks) files new = new ≡ Some files
IsUnwritten UsageVerdict files new = ⊥
IsUnwritten (Absent name) files new = ⊥
IsUnwritten BadImageVerdict files new = ⊥
IsUnwritten (BadScriptVerdict line kind) files new = ⊥
IsUnwritten BadTrackVerdict files new = ⊥

-- stopped for want of memory: where the verdict is good the files may have parts, else they are as before
abbrev pub IsWanting : Verdict → Files → Option Files → Type 0
IsWanting (Good image script order side) files new = LeavesOrdered order image script side (Some files) new
IsWanting (Scene number band workers) files new = new ≡ Some files
IsWanting (Rewind image script every keep clocks) files new = new ≡ Some files
IsWanting UsageVerdict files new = ⊥
IsWanting (Absent name) files new = new ≡ Some files
IsWanting BadImageVerdict files new = new ≡ Some files
IsWanting (BadScriptVerdict line kind) files new = new ≡ Some files
IsWanting BadTrackVerdict files new = new ≡ Some files

-- What stands after an answer to the words, where they are those of an order. The track is read only where the image fits the chip
-- memory of the good script.
abbrev pub OrderAnswers : OrderValue → Outside → Outside → Result (Unit {0}) Fault → Type 0
OrderAnswers order old new (Ok done) = WhereTold old.files (λ files. IsDone (of_order order files) files new.files)
OrderAnswers order old new (Err Usage) = ⊥
OrderAnswers order old new (Err (Inputs fault)) = IsInputFault old new order.image order.script fault × (new.files ≡ old.files)
OrderAnswers order old new (Err BadTrack) =
    WhereTold old.files (λ files. of_order order files ≡ BadTrackVerdict) × (new.files ≡ old.files) × HasTrack order.extra
OrderAnswers order old new (Err UnreadTrack) =
    Rose old.read_faults new.read_faults × (new.files ≡ old.files)
    × WhereTold old.files (HoldsRun order.image order.script) × HasTrack order.extra
OrderAnswers order old new (Err (Unwritten output)) =
    Rose old.write_faults new.write_faults × WhereTold old.files (λ files. IsUnwritten (of_order order files) files new.files)
    × IsOutputOf (audio_of order.extra) output
OrderAnswers order old new (Err Unsaid) = ⊥
OrderAnswers order old new (Err OutOfMemory) = WhereTold old.files (λ files. IsWanting (of_order order files) files new.files)
