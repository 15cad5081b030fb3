-- What was read of the two inputs, and their verdict.
use Rattle.std.proofs.Common.{◌≡◌, ℕ, ◌⊎◌, inl, inr, Bool, true, false, if◌then◌else◌, List, Option, Some, None, refl, ap, subst, ◌∙◌}
use Rattle.ocs_base.specs.Image.{is_image, fits_chip}
use Rattle.ocs_base.specs.Script.{ScriptValue}
use Rattle.ocs_io.specs.Answers.{WhereTold}
use Rattle.ocs_io.specs.Place.{Files, Outside, file}
use Rattle.script_read.specs.declared.fault.BadKind.{BadKind}
use Rattle.run_inputs.specs.Inputs.{Holds, HoldsNoImage, HoldsScript, HoldsMisfit, HoldsBadLine, AreInputsOf}
use Rattle.run_inputs.specs.Verdict.{BadImage, BadScript, Good, of_script, of_text, of_image, inputs_verdict}

-- ---- where the place tells its files

pub told_all : (files : Option Files) (Q : Files → Type 0) → ((f : Files) → files ≡ Some f → Q f) → WhereTold files Q
told_all None Q is = tt
told_all (Some f) Q is = is f refl

pub at_told : (files : Option Files) (P : Files → Type 0) (f : Files) → files ≡ Some f → WhereTold files P → P f
at_told files P f is told = subst (λ fs. WhereTold fs P) is told

-- ---- the verdict, step by step

module _ (image_name script_name : List ℕ) (f : Files) where
  image_read : (image : List ℕ) → Holds image_name image f → is_image image ≡ true
      → inputs_verdict image_name script_name f ≡ of_text script_name image (file f script_name)
  image_read image there good =
      ap (λ found. of_image image_name script_name f found) there
      ∙ ap (λ b. if b then of_text script_name image (file f script_name) else BadImage) good

  both_read : (image : List ℕ) (script : ScriptValue) (fits : Bool) → Holds image_name image f → is_image image ≡ true
      → HoldsScript script_name script f → fits_chip script.chip image ≡ fits
      → inputs_verdict image_name script_name f ≡ (if fits then Good image script else BadImage)
  both_read image script fits there good holds is =
      image_read image there good
      ∙ ap (λ found. of_text script_name image found) holds.there
      ∙ ap (λ v. of_script image v) holds.good
      ∙ ap (λ b. if b then Good image script else BadImage) is

  no_image : HoldsNoImage image_name f → inputs_verdict image_name script_name f ≡ BadImage
  no_image holds =
      ap (λ found. of_image image_name script_name f found) holds.there
      ∙ ap (λ b. if b then of_text script_name holds.bytes (file f script_name) else BadImage) holds.bad

  misfit : HoldsMisfit image_name script_name f → inputs_verdict image_name script_name f ≡ BadImage
  misfit holds = both_read holds.image holds.script false holds.image_there holds.image_good holds.script_good holds.misfits

  bad_line : (line : ℕ) (kind : BadKind) → HoldsBadLine image_name script_name line kind f
      → inputs_verdict image_name script_name f ≡ BadScript line kind
  bad_line line kind holds =
      image_read holds.image.bytes holds.image.there holds.image.good
      ∙ ap (λ found. of_text script_name holds.image.bytes found) holds.script.there
      ∙ ap (λ v. of_script holds.image.bytes v) holds.script.bad

-- ---- and where the place tells its files

-- good inputs that were read
pub good_verdict : (old : Outside) (image_name script_name image : List ℕ) (script : ScriptValue)
    → AreInputsOf old image_name script_name image script
    → WhereTold old.files (λ f. inputs_verdict image_name script_name f ≡ Good image script)
good_verdict old image_name script_name image script read =
    told_all old.files _ (λ f is. both_read image_name script_name f image script true (at_told old.files _ f is read.image_of.holds)
    read.image_of.good (at_told old.files _ f is read.script_of.holds) read.fits)

-- and bad ones
pub image_verdict : (old : Outside) (image_name script_name : List ℕ)
    → WhereTold old.files (HoldsNoImage image_name) ⊎ WhereTold old.files (HoldsMisfit image_name script_name)
    → WhereTold old.files (λ f. inputs_verdict image_name script_name f ≡ BadImage)
image_verdict old image_name script_name (inl holds) =
    told_all old.files _ (λ f is. no_image image_name script_name f (at_told old.files _ f is holds))
image_verdict old image_name script_name (inr holds) =
    told_all old.files _ (λ f is. misfit image_name script_name f (at_told old.files _ f is holds))

pub line_verdict : (old : Outside) (image_name script_name : List ℕ) (line : ℕ) (kind : BadKind)
    → WhereTold old.files (HoldsBadLine image_name script_name line kind)
    → WhereTold old.files (λ f. inputs_verdict image_name script_name f ≡ BadScript line kind)
line_verdict old image_name script_name line kind holds =
    told_all old.files _ (λ f is. bad_line image_name script_name f line kind (at_told old.files _ f is holds))
