-- What the two inputs of a run and of a rewind come to.
use Rattle.std.proofs.Common.{◌≡◌, ℕ, ◌≤◌, Bool, true, false, if◌then◌else◌, List, Option, Some, None, Result, Err, IsErrAnd, Ok}
use Rattle.std.proofs.Common.{refl, sym, ap, subst, arith}
use Rattle.ocs_base.specs.Image.{is_image, fits_chip}
use Rattle.ocs_base.specs.Script.{ScriptValue}
use Rattle.ocs_io.specs.Answers.{WhereTold}
use Rattle.ocs_io.specs.Place.{Files, Outside, Rose, file}
use Rattle.script_read.specs.Grammar.{script_of, Good as GoodScript, Bad as BadLine, Verdict as ScriptVerdict}
use Rattle.script_read.specs.declared.fault.BadKind.{BadKind}
use Rattle.run_inputs.specs.Inputs.{AreInputsOf}
use Rattle.run_inputs.specs.Verdict.{InputsVerdict, BadImage as NoImage, BadScript as NoScript, Good as GoodInputs, inputs_verdict}
use Rattle.run_inputs.specs.Verdict.{of_script, of_text, of_image}
use Rattle.run_inputs.proofs.FaultLaws.{told_more}
use Rattle.run_inputs.proofs.VerdictLaws.{at_told, good_verdict}
use Rattle.ocs_run.specs.Verdict.{Verdict, Absent, BadImage as BadImageVerdict, BadScript as BadScriptVerdict, with_inputs, of_inputs}

-- an answer that is some fault
pub by_err : {T E : Type 0} (P : Result T E → Type 0) (r : Result T E) (f : E) → IsErrAnd r (λ x. x ≡ f) → P (Err f) → P r
by_err P (Ok v) f is p = absurd is
by_err P (Err x) f is p = subst (λ e. P (Err e)) (sym is) p

pub rose_since : (a b c : ℕ) → a ≤ b → Rose b c → Rose a c
rose_since a b c le rose = omega (arith, le, rose)

-- ---- the verdict, whatever is asked of good inputs

by_test : (P : InputsVerdict → Type 0) (test : Bool) (v w : InputsVerdict) → P v → P w → P (if test then v else w)
by_test P true v w first second = first
by_test P false v w first second = second

module _ (P : Verdict → Type 0) (asked : List ℕ → ScriptValue → Verdict) (image_name script_name : List ℕ) (files : Files)
    (absent : (name : List ℕ) → P (Absent name)) (bad_image : P BadImageVerdict) (bad_script : (line : ℕ) (kind : BadKind) → P (BadScriptVerdict line kind))
    (good : (image text : List ℕ) (script : ScriptValue) → script_of text ≡ GoodScript script → P (asked image script)) where
  script_is : (image text : List ℕ) (verdict : ScriptVerdict) → script_of text ≡ verdict → P (with_inputs asked (of_script image verdict))
  script_is image text (GoodScript script) is =
      by_test (λ v. P (with_inputs asked v)) (fits_chip script.chip image) (GoodInputs image script) NoImage (good image text script is) bad_image
  script_is image text (BadLine line kind) is = bad_script line kind

  text_is : (image : List ℕ) (text : Option (List ℕ)) → P (with_inputs asked (of_text script_name image text))
  text_is image None = absent script_name
  text_is image (Some text) = script_is image text (script_of text) refl

  image_is : (image : Option (List ℕ)) → P (with_inputs asked (of_image image_name script_name files image))
  image_is None = absent image_name
  image_is (Some image) =
      by_test (λ v. P (with_inputs asked v)) (is_image image) (of_text script_name image (file files script_name)) NoImage
      (text_is image (file files script_name)) bad_image

  -- what holds of each verdict that the inputs can come to holds of theirs
  pub inputs_are : P (of_inputs asked image_name script_name files)
  inputs_are = image_is (file files image_name)

-- good inputs that were read
pub inputs_good : (asked : List ℕ → ScriptValue → Verdict) (image_name script_name : List ℕ) (f : Files) (old : Outside) (image : List ℕ)
    (script : ScriptValue) → old.files ≡ Some f → AreInputsOf old image_name script_name image script
    → of_inputs asked image_name script_name f ≡ asked image script
inputs_good asked image_name script_name f old image script is read =
    ap (with_inputs asked) (at_told old.files (λ f. inputs_verdict image_name script_name f ≡ GoodInputs image script) f is
    (good_verdict old image_name script_name image script read))

-- and bad ones, where what is asked of good ones may hang on the files
module _ (asked : Files → List ℕ → ScriptValue → Verdict) (image_name script_name : List ℕ) (files : Option Files) where
  pub no_image : WhereTold files (λ f. inputs_verdict image_name script_name f ≡ NoImage)
      → WhereTold files (λ f. of_inputs (asked f) image_name script_name f ≡ BadImageVerdict)
  no_image told =
      told_more files (λ f. inputs_verdict image_name script_name f ≡ NoImage) (λ f. of_inputs (asked f) image_name script_name f ≡ BadImageVerdict)
      (λ f v. ap (with_inputs (asked f)) v) told

  pub no_script : WhereTold files (λ f. (line : ℕ) × (kind : BadKind) × (inputs_verdict image_name script_name f ≡ NoScript line kind))
      → WhereTold files (λ f. (line : ℕ) × (kind : BadKind) × (of_inputs (asked f) image_name script_name f ≡ BadScriptVerdict line kind))
  no_script told =
      told_more files (λ f. (line : ℕ) × (kind : BadKind) × (inputs_verdict image_name script_name f ≡ NoScript line kind))
      (λ f. (line : ℕ) × (kind : BadKind) × (of_inputs (asked f) image_name script_name f ≡ BadScriptVerdict line kind))
      (λ f v. (v.0, v.1, ap (with_inputs (asked f)) v.2)) told
