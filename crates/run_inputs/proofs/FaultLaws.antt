-- The cause of a fault of the inputs, by its status.
use Rattle.std.proofs.Common.{◌≡◌, ℕ, List, Option, Some, None, arith}
use Rattle.ocs_io.specs.Answers.{WhereTold}
use Rattle.ocs_io.specs.Place.{Files, Outside, Rose}
use Rattle.script_read.specs.declared.fault.BadKind.{BadKind}
use Rattle.run_inputs.specs.Fault.{status_of}
use Rattle.run_inputs.specs.Inputs.{IsInputFault, IsToldOfInputs}
use Rattle.run_inputs.specs.Verdict.{inputs_verdict, BadImage as BadImageVerdict, BadScript as BadScriptVerdict}
use Rattle.run_inputs.specs.declared.fault.InputFault.{InputFault}
use Rattle.run_inputs.specs.declared.fault.InputFault.TheVariants.{BadImage, BadScript, Unread, OutOfMemory}
use Rattle.run_inputs.specs.declared.fault.InputFile.TheVariants.{Image, Script}
use Rattle.run_inputs.proofs.VerdictLaws.{image_verdict, line_verdict}

pub told_more : (files : Option Files) (P Q : Files → Type 0) → ((f : Files) → P f → Q f) → WhereTold files P → WhereTold files Q
told_more None P Q more told = tt
told_more (Some f) P Q more told = more f told

-- ---- no other statuses than 3, 4, 5 and 7

pub not_two : (fault : InputFault) → status_of fault ≡ 2 → ⊥
not_two BadImage two = omega arith
not_two (BadScript line kind) two = omega arith
not_two (Unread input) two = omega arith
not_two OutOfMemory two = omega arith

pub not_six : (fault : InputFault) → status_of fault ≡ 6 → ⊥
not_six BadImage six = omega arith
not_six (BadScript line kind) six = omega arith
not_six (Unread input) six = omega arith
not_six OutOfMemory six = omega arith

pub not_nine : (fault : InputFault) → status_of fault ≡ 9 → ⊥
not_nine BadImage nine = omega arith
not_nine (BadScript line kind) nine = omega arith
not_nine (Unread input) nine = omega arith
not_nine OutOfMemory nine = omega arith

-- ---- the causes

module _ (old new : Outside) (image script : List ℕ) where
  pub image_cause : (fault : InputFault) → IsInputFault old new image script fault → status_of fault ≡ 3
      → WhereTold old.files (λ f. inputs_verdict image script f ≡ BadImageVerdict)
  image_cause BadImage is three = image_verdict old image script is
  image_cause (BadScript line kind) is three = absurd (omega arith)
  image_cause (Unread input) is three = absurd (omega arith)
  image_cause OutOfMemory is three = absurd (omega arith)

  pub script_cause : (fault : InputFault) → IsInputFault old new image script fault → status_of fault ≡ 4
      → WhereTold old.files (λ f. (line : ℕ) × (kind : BadKind) × (inputs_verdict image script f ≡ BadScriptVerdict line kind))
  script_cause BadImage is four = absurd (omega arith)
  script_cause (BadScript line kind) is four =
      told_more old.files (λ f. inputs_verdict image script f ≡ BadScriptVerdict line kind)
      (λ f. (line : ℕ) × (kind : BadKind) × (inputs_verdict image script f ≡ BadScriptVerdict line kind)) (λ f v. (line, kind, v))
      (line_verdict old image script line kind is)
  script_cause (Unread input) is four = absurd (omega arith)
  script_cause OutOfMemory is four = absurd (omega arith)

  pub unread_cause : (fault : InputFault) → IsInputFault old new image script fault → status_of fault ≡ 5 → Rose old.read_faults new.read_faults
  unread_cause BadImage is five = absurd (omega arith)
  unread_cause (BadScript line kind) is five = absurd (omega arith)
  unread_cause (Unread Image) is five = is
  unread_cause (Unread Script) is five = is.0
  unread_cause OutOfMemory is five = absurd (omega arith)

  pub told_of_inputs : (fault : InputFault) → IsInputFault old new image script fault → IsToldOfInputs old image script fault
  told_of_inputs BadImage is = tt
  told_of_inputs (BadScript line kind) is = is
  told_of_inputs (Unread Image) is = tt
  told_of_inputs (Unread Script) is = is.1
  told_of_inputs OutOfMemory is = tt
