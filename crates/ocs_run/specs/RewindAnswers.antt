-- What stands after the command that goes to clocks.
use Rattle.std.specs.Prelude.{◌≡◌, ℕ, List, take, Result, Ok, Err}
use Rattle.ocs_io.specs.Answers.{WhereTold}
use Rattle.ocs_io.specs.Place.{Outside, Rose, said_more}
use Rattle.run_inputs.specs.Inputs.{IsInputFault}
use Rattle.run_inputs.specs.Texts.{KeepsSaid}
use Rattle.ocs_words.specs.RewindOrder.{RewindOrderValue}
use Rattle.ocs_run.specs.RewindText.{AreLines}
use Rattle.ocs_run.specs.Verdict.{Verdict, Usage as UsageVerdict, Absent, BadImage as BadImageVerdict, BadScript as BadScriptVerdict}
use Rattle.ocs_run.specs.Verdict.{BadTrack as BadTrackVerdict, Good, Scene, Rewind, of_rewind}
use Rattle.ocs_words.specs.declared.fault.Fault.{Fault}
use Rattle.ocs_words.specs.declared.fault.Fault.TheVariants.{Usage, Inputs, BadTrack, UnreadTrack, Unwritten, Unsaid, OutOfMemory}

-- the text is the lines that a verdict asks for, which only that of a rewind does
abbrev pub AreLinesOf : List ℕ → Verdict → Type 0
AreLinesOf text (Rewind image script every keep clocks) = AreLines image script every keep clocks text
AreLinesOf text UsageVerdict = ⊥
AreLinesOf text (Absent name) = ⊥
AreLinesOf text BadImageVerdict = ⊥
AreLinesOf text (BadScriptVerdict line kind) = ⊥
AreLinesOf text BadTrackVerdict = ⊥
AreLinesOf text (Good image script order side) = ⊥
AreLinesOf text (Scene number band workers) = ⊥

-- the lines were said, whole
pub record SaysLines (order : RewindOrderValue) (old new : Outside) : Type 0 where
  pub text : List ℕ
  pub lines : WhereTold old.files (λ files. AreLinesOf text (of_rewind order files))
  pub said : new.said ≡ said_more old.said text

-- the outside refused to say the lines: a part of them was said, from the first byte on
pub record SaysLinesPart (order : RewindOrderValue) (old new : Outside) : Type 0 where
  pub text : List ℕ
  pub lines : WhereTold old.files (λ files. AreLinesOf text (of_rewind order files))
  pub count : ℕ
  pub said : new.said ≡ said_more old.said (take count text)
  pub refused : Rose old.say_faults new.say_faults

-- what stands, and what was said before the text of a fault
abbrev pub RewindAnswers : RewindOrderValue → Outside → Outside → Result (Unit {0}) Fault → Type 0
RewindAnswers order old new (Ok done) = SaysLines order old new
RewindAnswers order old new (Err Usage) = ⊥
RewindAnswers order old new (Err (Inputs fault)) = IsInputFault old new order.image order.script fault × KeepsSaid old new
RewindAnswers order old new (Err BadTrack) = ⊥
RewindAnswers order old new (Err UnreadTrack) = ⊥
RewindAnswers order old new (Err (Unwritten output)) = ⊥
RewindAnswers order old new (Err Unsaid) = SaysLinesPart order old new
RewindAnswers order old new (Err OutOfMemory) = KeepsSaid old new
