-- What the top call answers.
use Rattle.std.specs.Prelude.{◌≡◌, ℕ, ◌⊎◌, List, take, Option, Some, None, Result, Ok, Err}
use Rattle.ocs_base.specs.Script.{ScriptValue}
use Rattle.ocs_io.specs.Answers.{WhereTold}
use Rattle.ocs_io.specs.Place.{Files, Outside, Rose, with_file}
use Rattle.run_inputs.specs.Inputs.{IsInputFault, IsToldOfInputs}
use Rattle.run_inputs.specs.Texts.{Says}
use Rattle.run_inputs.specs.Verdict.{Absent, BadImage as BadImageVerdict, BadScript as BadScriptVerdict, Good}
use Rattle.script_read.specs.declared.fault.BadKind.{BadKind}
use Rattle.slots_run.specs.Fault.{status_of}
use Rattle.slots_run.specs.Log.{IsLogOf}
use Rattle.slots_run.specs.Order.{SlotsOrderValue, order_of}
use Rattle.slots_run.specs.Texts.{text_of}
use Rattle.slots_run.specs.Verdict.{Verdict, Usage as UsageVerdict, Asked, of_order}
use Rattle.slots_run.specs.declared.fault.SlotsFault.{SlotsFault}
use Rattle.slots_run.specs.declared.fault.SlotsFault.TheVariants.{Usage, Inputs, Unwritten, OutOfMemory}

-- the place lets the two inputs that the words name be read
abbrev pub ReadableInputs : (List ℕ → Type 0) → Option SlotsOrderValue → Type 0
ReadableInputs readable None = Unit {0}
ReadableInputs readable (Some order) = readable order.image × readable order.script

-- the file of the order is the log, whole, and every other file is as before
pub record HasLog (order : SlotsOrderValue) (image : List ℕ) (script : ScriptValue) (files new : Option Files) : Type 0 where
  pub text : List ℕ
  pub log : IsLogOf image script order.from order.to text
  pub held : new ≡ with_file files order.out text

-- the file of the order has a part of the log, from the first byte on, which may be empty, and every other file is as before
pub record HasLogPart (order : SlotsOrderValue) (image : List ℕ) (script : ScriptValue) (files new : Option Files) : Type 0 where
  pub text : List ℕ
  pub log : IsLogOf image script order.from order.to text
  pub count : ℕ
  pub held : new ≡ with_file files order.out (take count text)

-- done: which only good inputs come to
abbrev pub IsDone : Verdict → Files → Option Files → Type 0
IsDone UsageVerdict files new = ⊥
IsDone (Asked order (Absent name)) files new = ⊥
IsDone (Asked order BadImageVerdict) files new = ⊥
IsDone (Asked order (BadScriptVerdict line kind)) files new = ⊥
IsDone (Asked order (Good image script)) files new = HasLog order image script (Some files) new

-- stopped by a file that could not be written, which only good inputs come to: it is as before or has a part
abbrev pub IsUnwritten : Verdict → Files → Option Files → Type 0
IsUnwritten UsageVerdict files new = ⊥
IsUnwritten (Asked order (Absent name)) files new = ⊥
IsUnwritten (Asked order BadImageVerdict) files new = ⊥
IsUnwritten (Asked order (BadScriptVerdict line kind)) files new = ⊥
IsUnwritten (Asked order (Good image script)) files new = (new ≡ Some files) ⊎ HasLogPart order image script (Some files) new

-- stopped for want of memory: where the inputs are good the file may have a part, else all files are as before
abbrev pub IsWanting : Verdict → Files → Option Files → Type 0
IsWanting UsageVerdict files new = ⊥
IsWanting (Asked order (Absent name)) files new = new ≡ Some files
IsWanting (Asked order BadImageVerdict) files new = new ≡ Some files
IsWanting (Asked order (BadScriptVerdict line kind)) files new = new ≡ Some files
IsWanting (Asked order (Good image script)) files new = (new ≡ Some files) ⊎ HasLogPart order image script (Some files) new

-- what stands after an order
abbrev pub OrderAnswers : SlotsOrderValue → Outside → Outside → Result (Unit {0}) SlotsFault → Type 0
OrderAnswers order old new (Ok done) = WhereTold old.files (λ files. IsDone (of_order order files) files new.files)
OrderAnswers order old new (Err Usage) = ⊥
OrderAnswers order old new (Err (Inputs fault)) = IsInputFault old new order.image order.script fault × (new.files ≡ old.files)
OrderAnswers order old new (Err Unwritten) =
    Rose old.write_faults new.write_faults × WhereTold old.files (λ files. IsUnwritten (of_order order files) files new.files)
OrderAnswers order old new (Err OutOfMemory) = WhereTold old.files (λ files. IsWanting (of_order order files) files new.files)

-- what stands after words of no form
abbrev pub UsageAnswers : Outside → Outside → Result (Unit {0}) SlotsFault → Type 0
UsageAnswers old new (Ok done) = ⊥
UsageAnswers old new (Err Usage) = new.files ≡ old.files
UsageAnswers old new (Err (Inputs fault)) = ⊥
UsageAnswers old new (Err Unwritten) = ⊥
UsageAnswers old new (Err OutOfMemory) = ⊥

-- after either
abbrev pub WordsAnswers : Option SlotsOrderValue → Outside → Outside → Result (Unit {0}) SlotsFault → Type 0
WordsAnswers None old new answer = UsageAnswers old new answer
WordsAnswers (Some order) old new answer = OrderAnswers order old new answer

-- the answers before the file is created
abbrev pub IsEarly : ℕ → Type 0
IsEarly status = (status ≡ 2) ⊎ ((status ≡ 3) ⊎ ((status ≡ 4) ⊎ (status ≡ 5)))

abbrev pub HasBadImage : Verdict → Type 0
HasBadImage UsageVerdict = ⊥
HasBadImage (Asked order inputs) = inputs ≡ BadImageVerdict

abbrev pub HasBadScript : Verdict → Type 0
HasBadScript UsageVerdict = ⊥
HasBadScript (Asked order inputs) = (line : ℕ) × (kind : BadKind) × (inputs ≡ BadScriptVerdict line kind)

-- the status of a verdict where no fault of the outside came, but for want of memory
abbrev pub Completed : Verdict → Outside → Outside → ℕ → Type 0
Completed UsageVerdict old new status = status ≡ 2
Completed (Asked order (Absent name)) old new status = (status ≡ 5) ⊎ (status ≡ 7)
Completed (Asked order BadImageVerdict) old new status = Rose old.read_faults new.read_faults ⊎ ((status ≡ 3) ⊎ (status ≡ 7))
Completed (Asked order (BadScriptVerdict line kind)) old new status =
    Rose old.read_faults new.read_faults ⊎ ((status ≡ 4) ⊎ (status ≡ 7))
Completed (Asked order (Good image script)) old new status =
    (Rose old.read_faults new.read_faults ⊎ Rose old.write_faults new.write_faults) ⊎ ((status ≡ 0) ⊎ (status ≡ 7))

-- the fault is one of the words, and what its text tells is so
abbrev pub IsToldOfOrder : SlotsOrderValue → Outside → SlotsFault → Type 0
IsToldOfOrder order old Usage = ⊥
IsToldOfOrder order old (Inputs fault) = IsToldOfInputs old order.image order.script fault
IsToldOfOrder order old Unwritten = Unit {0}
IsToldOfOrder order old OutOfMemory = Unit {0}

abbrev pub IsTold : Option SlotsOrderValue → Outside → SlotsFault → Type 0
IsTold None old fault = fault ≡ Usage
IsTold (Some order) old fault = IsToldOfOrder order old fault

-- the text of a fault was said, and nothing else
pub record SaysFault (words : List (List ℕ)) (old new : Outside) (status : ℕ) : Type 0 where
  pub fault : SlotsFault
  pub answered : status ≡ status_of fault
  pub said : Says (text_of words fault) old new
  pub told : IsTold (order_of words) old fault

-- where it is done nothing was said
abbrev pub SaysStatus : List (List ℕ) → Outside → Outside → ℕ → Type 0
SaysStatus words old new status = ((status ≡ 0) × (new.said ≡ old.said)) ⊎ SaysFault words old new status
