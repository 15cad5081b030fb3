-- The answers to the words of a rewind, from what its inputs were read to be and from what was said.
use Rattle.std.proofs.Common.{◌≡◌, ℕ, List, Err, sym, ap, subst, ◌∙◌, take}
use Rattle.ocs_base.specs.Script.{ScriptValue}
use Rattle.ocs_io.specs.Answers.{WhereTold}
use Rattle.ocs_io.specs.Place.{Outside, Rose, OnlyReads, said_more}
use Rattle.run_inputs.specs.Inputs.{AreInputsOf, IsInputFault}
use Rattle.run_inputs.specs.Texts.{KeepsSaid}
use Rattle.run_inputs.specs.declared.fault.InputFault.{InputFault}
use Rattle.run_inputs.proofs.VerdictLaws.{told_all}
use Rattle.ocs_run.specs.RewindAnswers.{RewindAnswers, AreLinesOf, SaysLines, SaysLinesPart}
use Rattle.ocs_words.specs.RewindOrder.{RewindOrderValue}
use Rattle.ocs_run.specs.RewindText.{AreLines}
use Rattle.ocs_run.specs.Verdict.{Verdict, Rewind, of_rewind}
use Rattle.ocs_words.specs.declared.fault.Fault.TheVariants.{Inputs}
use Rattle.ocs_run.proofs.VerdictLaws.{inputs_good}

-- what is asked of good inputs
abbrev pub asked_by : RewindOrderValue → List ℕ → ScriptValue → Verdict
asked_by o image script = Rewind image script o.every o.keep o.clocks

pub reads_keep : (old new : Outside) → OnlyReads old new → KeepsSaid old new
reads_keep old new kept = record { said = kept.said; faults = kept.say_faults }

pub rewind_fault : (o : RewindOrderValue) (old new : Outside) (fault : InputFault) → IsInputFault old new o.image o.script fault → OnlyReads old new
    → RewindAnswers o old new (Err (Inputs fault))
rewind_fault o old new fault is kept = (is, reads_keep old new kept)

-- the lines are those of the inputs that were read
lines_told : (o : RewindOrderValue) (old : Outside) (image text : List ℕ) (script : ScriptValue) → AreInputsOf old o.image o.script image script
    → AreLines image script o.every o.keep o.clocks text → WhereTold old.files (λ files. AreLinesOf text (of_rewind o files))
lines_told o old image text script read are =
    told_all old.files (λ f. AreLinesOf text (of_rewind o f))
    (λ f e. subst (λ v. AreLinesOf text v) (sym (inputs_good (asked_by o) o.image o.script f old image script e read)) are)

pub lines_said : (o : RewindOrderValue) (old mid new : Outside) (image text : List ℕ) (script : ScriptValue)
    → AreInputsOf old o.image o.script image script → AreLines image script o.every o.keep o.clocks text → OnlyReads old mid
    → new.said ≡ said_more mid.said text → SaysLines o old new
lines_said o old mid new image text script read are kept said = record {
  text = text;
  lines = lines_told o old image text script read are;
  said = said ∙ ap (λ t. said_more t text) kept.said;
}

pub lines_refused : (o : RewindOrderValue) (old mid new : Outside) (image text : List ℕ) (script : ScriptValue)
    → AreInputsOf old o.image o.script image script → AreLines image script o.every o.keep o.clocks text → OnlyReads old mid
    → (n : ℕ) × (new.said ≡ said_more mid.said (take n text)) → Rose mid.say_faults new.say_faults → SaysLinesPart o old new
lines_refused o old mid new image text script read are kept part rose = record {
  text = text;
  lines = lines_told o old image text script read are;
  count = part.0;
  said = part.1 ∙ ap (λ t. said_more t (take part.0 text)) kept.said;
  refused = subst (λ n. Rose n new.say_faults) kept.say_faults rose;
}

-- where saying wanted memory, nothing was said
pub lines_wanting : (old mid new : Outside) → OnlyReads old mid → new ≡ mid → KeepsSaid old new
lines_wanting old mid new kept same = record {
  said = ap (λ (o : Outside). o.said) same ∙ kept.said;
  faults = ap (λ (o : Outside). o.say_faults) same ∙ kept.say_faults;
}
