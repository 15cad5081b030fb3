-- What the top call answers.
use Rattle.std.specs.Prelude.{◌≡◌, ℕ, ◌⊎◌, List, Option, Some, None, Result, Ok, Err}
use Rattle.ocs_io.specs.Answers.{WhereTold}
use Rattle.ocs_io.specs.Place.{Outside, Rose}
use Rattle.scene_gen.specs.Scene.{scene_image, scene_script}
use Rattle.script_read.specs.declared.fault.BadKind.{BadKind}
use Rattle.serial_model.specs.Serial.{IsEnd, IsEndOver}
use Rattle.run_inputs.specs.Inputs.{HoldsRun, IsToldOfInputs}
use Rattle.run_inputs.specs.Texts.{Says, KeepsSaid}
use Rattle.ocs_run.specs.Command.{OrderAnswers}
use Rattle.ocs_words.specs.Fault.{IsOutputOf, status_of}
use Rattle.ocs_words.specs.Order.{OrderValue, HasTrack, audio_of}
use Rattle.ocs_run.specs.SceneAnswers.{SceneAnswers, SaysSummary, SaysSummaryPart}
use Rattle.ocs_run.specs.Sides.{ReadableTrack}
use Rattle.ocs_words.specs.Texts.{text_of}
use Rattle.ocs_run.specs.Verdict.{Verdict, Usage as UsageVerdict, Absent, BadImage as BadImageVerdict, BadScript as BadScriptVerdict}
use Rattle.ocs_run.specs.Verdict.{BadTrack as BadTrackVerdict, Good, Scene, Rewind as RewindVerdict}
use Rattle.ocs_run.specs.RewindAnswers.{RewindAnswers, SaysLines, SaysLinesPart}
use Rattle.ocs_words.specs.RewindOrder.{RewindOrderValue}
use Rattle.ocs_words.specs.Words.{CommandValue, Run, Gen, Rewind, command_of}
use Rattle.ocs_words.specs.declared.fault.Fault.{Fault}
use Rattle.ocs_words.specs.declared.fault.Fault.TheVariants.{Usage, Inputs, BadTrack, UnreadTrack, Unwritten, Unsaid, OutOfMemory}

-- the place lets the input files of an order be read
pub record ReadableOrder (readable : List ℕ → Type 0) (order : OrderValue) : Type 0 where
  pub image : readable order.image
  pub script : readable order.script
  pub track : ReadableTrack readable order.extra

-- the place lets the two inputs of a rewind be read
pub record ReadablePair (readable : List ℕ → Type 0) (order : RewindOrderValue) : Type 0 where
  pub image : readable order.image
  pub script : readable order.script

-- and those named in the words
pub record ReadableInputs (readable : List ℕ → Type 0) (command : Option CommandValue) : Type 0 where
  pub run : (order : OrderValue) → command ≡ Some (Run order) → ReadableOrder readable order
  pub rewind : (order : RewindOrderValue) → command ≡ Some (Rewind order) → ReadablePair readable order

-- the same, by the command
abbrev pub ReadableCommand : (List ℕ → Type 0) → Option CommandValue → Type 0
ReadableCommand readable None = Unit {0}
ReadableCommand readable (Some (Run order)) = readable order.image × readable order.script × ReadableTrack readable order.extra
ReadableCommand readable (Some (Gen scene)) = Unit {0}
ReadableCommand readable (Some (Rewind order)) = readable order.image × readable order.script

-- what stands after words of no command
abbrev pub UsageAnswers : Outside → Outside → Result (Unit {0}) Fault → Type 0
UsageAnswers old new (Ok done) = ⊥
UsageAnswers old new (Err Usage) = new.files ≡ old.files
UsageAnswers old new (Err (Inputs fault)) = ⊥
UsageAnswers old new (Err BadTrack) = ⊥
UsageAnswers old new (Err UnreadTrack) = ⊥
UsageAnswers old new (Err (Unwritten output)) = ⊥
UsageAnswers old new (Err Unsaid) = ⊥
UsageAnswers old new (Err OutOfMemory) = ⊥

-- what stands after a command, where the words may be of none
abbrev pub CommandAnswers : Option CommandValue → Outside → Outside → Result (Unit {0}) Fault → Type 0
CommandAnswers None old new answer = UsageAnswers old new answer
CommandAnswers (Some (Run order)) old new answer = OrderAnswers order old new answer
CommandAnswers (Some (Gen scene)) old new answer = SceneAnswers scene.number old new answer × (new.files ≡ old.files)
CommandAnswers (Some (Rewind order)) old new answer = RewindAnswers order old new answer × (new.files ≡ old.files)

-- a run says nothing before the text of a fault
abbrev pub SaysNothingElse : Option CommandValue → Outside → Outside → Type 0
SaysNothingElse None old new = KeepsSaid old new
SaysNothingElse (Some (Run order)) old new = KeepsSaid old new
SaysNothingElse (Some (Gen scene)) old new = Unit {0}
SaysNothingElse (Some (Rewind order)) old new = Unit {0}

-- the answers before the first create
abbrev pub IsEarly : ℕ → Type 0
IsEarly status = (status ≡ 2) ⊎ ((status ≡ 3) ⊎ ((status ≡ 4) ⊎ ((status ≡ 5) ⊎ (status ≡ 9))))

-- a command that writes no file
abbrev pub WritesNoFile : Option CommandValue → Type 0
WritesNoFile None = ⊥
WritesNoFile (Some (Run order)) = ⊥
WritesNoFile (Some (Gen scene)) = Unit {0}
WritesNoFile (Some (Rewind order)) = Unit {0}

-- the outside refused what a command writes: a file of a run, the summary of a scene, or the lines of a rewind
abbrev pub IsRefused : Option CommandValue → Outside → Outside → Type 0
IsRefused None old new = ⊥
IsRefused (Some (Run order)) old new = Rose old.write_faults new.write_faults
IsRefused (Some (Gen scene)) old new = Rose old.say_faults new.say_faults
IsRefused (Some (Rewind order)) old new = Rose old.say_faults new.say_faults

abbrev pub HasBadImage : Verdict → Type 0
HasBadImage verdict = verdict ≡ BadImageVerdict

abbrev pub HasBadScript : Verdict → Type 0
HasBadScript verdict = (line : ℕ) × (kind : BadKind) × (verdict ≡ BadScriptVerdict line kind)

abbrev pub HasBadTrack : Verdict → Type 0
HasBadTrack verdict = verdict ≡ BadTrackVerdict

-- a run of good inputs comes to an end, and so do a scene's and that of a rewind
abbrev pub HasRunEnd : Verdict → Type 0
HasRunEnd UsageVerdict = Unit {0}
HasRunEnd (Absent name) = Unit {0}
HasRunEnd BadImageVerdict = Unit {0}
HasRunEnd (BadScriptVerdict line kind) = Unit {0}
HasRunEnd BadTrackVerdict = Unit {0}
HasRunEnd (Good image script order side) = (end : ℕ) × IsEndOver side image script end
HasRunEnd (Scene number band workers) = (end : ℕ) × IsEnd (scene_image number) (scene_script number) end
HasRunEnd (RewindVerdict image script every keep clocks) = (end : ℕ) × IsEnd image script end

-- the status of a verdict where no fault of the outside came, but for want of memory
abbrev pub Completed : Verdict → Outside → Outside → ℕ → Type 0
Completed UsageVerdict old new status = status ≡ 2
Completed (Absent name) old new status = (status ≡ 5) ⊎ (status ≡ 7)
Completed BadImageVerdict old new status = Rose old.read_faults new.read_faults ⊎ ((status ≡ 3) ⊎ (status ≡ 7))
Completed (BadScriptVerdict line kind) old new status = Rose old.read_faults new.read_faults ⊎ ((status ≡ 4) ⊎ (status ≡ 7))
Completed BadTrackVerdict old new status = Rose old.read_faults new.read_faults ⊎ ((status ≡ 9) ⊎ (status ≡ 7))
Completed (Good image script order side) old new status =
    (Rose old.read_faults new.read_faults ⊎ Rose old.write_faults new.write_faults)
    ⊎ ((status ≡ 0) ⊎ (status ≡ 7))
Completed (Scene number band workers) old new status = Rose old.say_faults new.say_faults ⊎ ((status ≡ 0) ⊎ (status ≡ 7))
Completed (RewindVerdict image script every keep clocks) old new status =
    (Rose old.read_faults new.read_faults ⊎ Rose old.say_faults new.say_faults)
    ⊎ ((status ≡ 0) ⊎ (status ≡ 7))

-- the fault is one of a run, and what its text tells is so: the track is named, of a command that reads one, only where the image fits
-- the good script's chip memory
abbrev pub IsToldOfRun : OrderValue → Outside → Fault → Type 0
IsToldOfRun order old Usage = ⊥
IsToldOfRun order old (Inputs fault) = IsToldOfInputs old order.image order.script fault
IsToldOfRun order old BadTrack = HasTrack order.extra
IsToldOfRun order old UnreadTrack = WhereTold old.files (HoldsRun order.image order.script) × HasTrack order.extra
IsToldOfRun order old (Unwritten output) = IsOutputOf (audio_of order.extra) output
IsToldOfRun order old Unsaid = ⊥
IsToldOfRun order old OutOfMemory = Unit {0}

-- the same of a rewind
abbrev pub IsToldOfRewind : RewindOrderValue → Outside → Fault → Type 0
IsToldOfRewind order old Usage = ⊥
IsToldOfRewind order old (Inputs fault) = IsToldOfInputs old order.image order.script fault
IsToldOfRewind order old BadTrack = ⊥
IsToldOfRewind order old UnreadTrack = ⊥
IsToldOfRewind order old (Unwritten output) = ⊥
IsToldOfRewind order old Unsaid = ⊥
IsToldOfRewind order old OutOfMemory = Unit {0}

-- the fault is one of the command: words of none have the form alone to tell, and a scene only wants memory
abbrev pub IsTold : Option CommandValue → Outside → Fault → Type 0
IsTold None old fault = fault ≡ Usage
IsTold (Some (Run order)) old fault = IsToldOfRun order old fault
IsTold (Some (Gen scene)) old fault = fault ≡ OutOfMemory
IsTold (Some (Rewind order)) old fault = IsToldOfRewind order old fault

-- the text of a fault was said, and nothing else
pub record SaysFault (words : List (List ℕ)) (old new : Outside) (status : ℕ) : Type 0 where
  pub fault : Fault
  pub answered : status ≡ status_of fault
  pub said : Says (text_of words fault) old new
  pub told : IsTold (command_of words) old fault

-- a run that is done says nothing; of a scene the summary was said at 0, and a part of it at 6, and nothing else; and so of a rewind
-- its lines
abbrev pub SaysOwn : Option CommandValue → Outside → Outside → ℕ → Type 0
SaysOwn None old new status = ⊥
SaysOwn (Some (Run order)) old new status = (status ≡ 0) × (new.said ≡ old.said)
SaysOwn (Some (Gen scene)) old new status =
    ((status ≡ 0) × SaysSummary scene.number old new) ⊎ ((status ≡ 6) × SaysSummaryPart scene.number old new)
SaysOwn (Some (Rewind order)) old new status =
    ((status ≡ 0) × SaysLines order old new) ⊎ ((status ≡ 6) × SaysLinesPart order old new)

abbrev pub SaysStatus : List (List ℕ) → Outside → Outside → ℕ → Type 0
SaysStatus words old new status = SaysOwn (command_of words) old new status ⊎ SaysFault words old new status
