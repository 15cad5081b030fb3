-- What stands after an order: from its inputs, its log and its file.
use Rattle.std.proofs.Common.{◌≡◌, ℕ, zero, suc, ◌⊎◌, inl, inr, List, [], take, Option, Some, Result, Ok, Err, OnOk, OnErr, IfErr}
use Rattle.std.proofs.Common.{refl, sym, ap, subst, ◌∙◌}
use Rattle.ocs_base.specs.Script.{ScriptValue}
use Rattle.ocs_io.specs.Answers.{WhereTold}
use Rattle.ocs_io.specs.Place.{Files, Outside, Rose, OnlyReads, OnlyWrites, with_file, grown}
use Rattle.out_files.proofs.FilesLaws.{grown-with_file}
use Rattle.run_inputs.specs.Inputs.{AreInputsOf}
use Rattle.run_inputs.specs.Texts.{KeepsSaid}
use Rattle.run_inputs.specs.Verdict.{InputsVerdict, Good, inputs_verdict}
use Rattle.run_inputs.proofs.VerdictLaws.{told_all, at_told, good_verdict}
use Rattle.slots_run.specs.code.File.{MayHavePart, MayHaveGrown, IsWriteFault}
use Rattle.slots_run.specs.Log.{IsLogOf}
use Rattle.slots_run.specs.Order.{SlotsOrderValue}
use Rattle.slots_run.specs.Top.{HasLogPart, IsDone, IsUnwritten, IsWanting, OrderAnswers}
use Rattle.slots_run.specs.Verdict.{Verdict, Asked, of_order}
use Rattle.slots_run.specs.declared.fault.SlotsFault.{SlotsFault}
use Rattle.slots_run.specs.declared.fault.SlotsFault.TheVariants.{Usage, Inputs, Unwritten, OutOfMemory}
use Rattle.slots_run.proofs.TopLaws.{wanting_kept}

-- ---- the file

-- it was created, and grown by the text or a part of it
pub made_whole : (old mid new : Option Files) (name text : List ℕ) → mid ≡ with_file old name [] → new ≡ grown mid name text
    → new ≡ with_file old name text
made_whole old mid new name text made more = more ∙ ap (λ f. grown f name text) made ∙ grown-with_file old name [] text

pub made_part : (old mid new : Option Files) (name text : List ℕ) → mid ≡ with_file old name [] → MayHaveGrown name text mid new
    → MayHavePart name text old new
made_part old mid new name text made (inl same) = inr (0, same ∙ made)
made_part old mid new name text made (inr grew) = inr (grew.0, made_whole old mid new name (take grew.0 text) made grew.1)

-- and it may not have been created
pub made_none : (old new : Option Files) (name text : List ℕ) → MayHavePart name [] old new → MayHavePart name text old new
made_none old new name text (inl same) = inl same
made_none old new name text (inr empty) = inr (0, empty.1 ∙ ap (with_file old name) (none empty.0))
  where
    none : (n : ℕ) → take {A = ℕ} n [] ≡ []
    none zero = refl
    none (suc n) = refl

pub on_err : {T E : Type 0} (r : Result T E) (P : Type 0) → P → OnErr r P
on_err (Ok v) P is = tt
on_err (Err e) P is = is

pub file_result : {R : Type 0} (r : Result R SlotsFault) (old mid new : Option Files) (name text : List ℕ) → mid ≡ with_file old name []
    → OnErr r (MayHaveGrown name text mid new) → OnErr r (MayHavePart name text old new)
file_result (Ok done) old mid new name text made part = tt
file_result (Err refused) old mid new name text made part = made_part old mid new name text made part

pub file_done : {R : Type 0} (r : Result R SlotsFault) (old mid new : Option Files) (name text : List ℕ) → mid ≡ with_file old name []
    → OnOk r (new ≡ grown mid name text) → OnOk r (new ≡ with_file old name text)
file_done (Ok done) old mid new name text made more = made_whole old mid new name text made more
file_done (Err refused) old mid new name text made more = tt

-- ---- the inputs were read, and are good

module _ (order : SlotsOrderValue) (old : Outside) (image : List ℕ) (script : ScriptValue)
    (read : AreInputsOf old order.image order.script image script) where
  -- what is so of good inputs is so of the verdict
  by_good : (P : Verdict → Files → Type 0) → ((f : Files) → old.files ≡ Some f → P (Asked order (Good image script)) f)
      → WhereTold old.files (λ f. P (of_order order f) f)
  by_good P good =
      told_all old.files (λ f. P (of_order order f) f) (λ f is.
      subst (λ (v : InputsVerdict). P (Asked order v) f)
      (sym (at_told old.files (λ g. inputs_verdict order.image order.script g ≡ Good image script) f is
      (good_verdict old order.image order.script image script read)))
      (good f is))

  -- memory was wanting before the file was made
  pub memory_answer : (new : Outside) → new.files ≡ old.files → OrderAnswers order old new (Err OutOfMemory)
  memory_answer new same =
      told_all old.files (λ f. IsWanting (of_order order f) f new.files)
      (λ f is. wanting_kept order (inputs_verdict order.image order.script f) f new.files (same ∙ is))

  module _ (mid new : Outside) (text : List ℕ) (log : IsLogOf image script order.from order.to text) (reads : OnlyReads old mid) where
    done_answer : new.files ≡ with_file mid.files order.out text → OrderAnswers order old new (Ok tt)
    done_answer made =
        by_good (λ v f. IsDone v f new.files) (λ f is. record {
          text = text;
          log = log;
          held = made ∙ ap (λ files. with_file files order.out text) (reads.files ∙ is);
        })

    -- the file is as before, or has a part
    part_is : (f : Files) → old.files ≡ Some f → MayHavePart order.out text mid.files new.files
        → (new.files ≡ Some f) ⊎ HasLogPart order image script (Some f) new.files
    part_is f is (inl same) = inl (same ∙ (reads.files ∙ is))
    part_is f is (inr part) = inr (record {
      text = text;
      log = log;
      count = part.0;
      held = part.1 ∙ ap (λ files. with_file files order.out (take part.0 text)) (reads.files ∙ is);
    })

    fault_answer : (fault : SlotsFault) → MayHavePart order.out text mid.files new.files → IsWriteFault mid new fault
        → OrderAnswers order old new (Err fault)
    fault_answer Usage part is = absurd is
    fault_answer (Inputs fault) part is = absurd is
    fault_answer Unwritten part is = (
      subst (λ n. Rose n new.write_faults) reads.write_faults is,
      by_good (λ v f. IsUnwritten v f new.files) (λ f told. part_is f told part),
    )
    fault_answer OutOfMemory part is = by_good (λ v f. IsWanting v f new.files) (λ f told. part_is f told part)

    pub file_answer : (r : Result (Unit {0}) SlotsFault) → OnOk r (new.files ≡ with_file mid.files order.out text)
        → OnErr r (MayHavePart order.out text mid.files new.files) → IfErr r (IsWriteFault mid new) → OrderAnswers order old new r
    file_answer (Ok done) made part fault = done_answer made
    file_answer (Err refused) made part fault = fault_answer refused part fault

-- nothing is said
pub keeps_said : (old mid new : Outside) → OnlyReads old mid → OnlyWrites mid new → KeepsSaid old new
keeps_said old mid new reads writes =
    record { said = writes.said ∙ reads.said; faults = writes.say_faults ∙ reads.say_faults }
