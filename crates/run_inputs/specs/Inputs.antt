-- What reading the inputs tells.
use Rattle.std.specs.Prelude.{◌≡◌, ℕ, true, false, ◌⊎◌, List, Some}
use Rattle.ocs_base.specs.Image.{is_image, fits_chip}
use Rattle.ocs_base.specs.Limits.{IsRunnable}
use Rattle.ocs_base.specs.Script.{ScriptValue}
use Rattle.ocs_io.specs.Answers.{WhereTold}
use Rattle.ocs_io.specs.Place.{Files, Outside, Rose, file}
use Rattle.script_read.specs.declared.fault.BadKind.{BadKind}
use Rattle.script_read.specs.Grammar.{script_of, Good, Bad}
use Rattle.run_inputs.specs.declared.fault.InputFault.{InputFault}
use Rattle.run_inputs.specs.declared.fault.InputFault.TheVariants.{BadImage, BadScript, Unread, OutOfMemory}
use Rattle.run_inputs.specs.declared.fault.InputFile.TheVariants.{Image, Script}

-- the file is there with these bytes
abbrev pub Holds : List ℕ → List ℕ → Files → Type 0
Holds name bytes files = file files name ≡ Some bytes

-- the file is there, and has the form of an image
pub record HoldsImage (name : List ℕ) (files : Files) : Type 0 where
  pub bytes : List ℕ
  pub there : file files name ≡ Some bytes
  pub good : is_image bytes ≡ true

-- the file is there, and has not the form of an image
pub record HoldsNoImage (name : List ℕ) (files : Files) : Type 0 where
  pub bytes : List ℕ
  pub there : file files name ≡ Some bytes
  pub bad : is_image bytes ≡ false

-- the file is there, and is the text of this script
pub record HoldsScript (name : List ℕ) (script : ScriptValue) (files : Files) : Type 0 where
  pub text : List ℕ
  pub there : file files name ≡ Some text
  pub good : script_of text ≡ Good script

-- the file is there, and is bad at a line
pub record HoldsBadScript (name : List ℕ) (line : ℕ) (kind : BadKind) (files : Files) : Type 0 where
  pub text : List ℕ
  pub there : file files name ≡ Some text
  pub bad : script_of text ≡ Bad line kind

-- image and script are there and good, and the image fits the script's chip memory
pub record HoldsRun (image_name script_name : List ℕ) (files : Files) : Type 0 where
  pub image : List ℕ
  pub script : ScriptValue
  pub image_there : file files image_name ≡ Some image
  pub image_good : is_image image ≡ true
  pub script_good : HoldsScript script_name script files
  pub fits : fits_chip script.chip image ≡ true

-- an image was read
pub record IsImageOf (old : Outside) (name image : List ℕ) : Type 0 where
  pub holds : WhereTold old.files (Holds name image)
  pub good : is_image image ≡ true

-- why no image was read
abbrev pub IsImageFault : Outside → Outside → List ℕ → InputFault → Type 0
IsImageFault old new name BadImage = WhereTold old.files (HoldsNoImage name)
IsImageFault old new name (BadScript line kind) = ⊥
IsImageFault old new name (Unread Image) = Rose old.read_faults new.read_faults
IsImageFault old new name (Unread Script) = ⊥
IsImageFault old new name OutOfMemory = Unit {0}

-- a script was read
pub record IsScriptOf (old : Outside) (name : List ℕ) (script : ScriptValue) : Type 0 where
  pub holds : WhereTold old.files (HoldsScript name script)
  pub runnable : IsRunnable script

-- why no script was read
abbrev pub IsScriptFault : Outside → Outside → List ℕ → InputFault → Type 0
IsScriptFault old new name BadImage = ⊥
IsScriptFault old new name (BadScript line kind) = WhereTold old.files (HoldsBadScript name line kind)
IsScriptFault old new name (Unread Image) = ⊥
IsScriptFault old new name (Unread Script) = Rose old.read_faults new.read_faults
IsScriptFault old new name OutOfMemory = Unit {0}

-- why a text is no script
abbrev pub IsTextFault : List ℕ → InputFault → Type 0
IsTextFault text BadImage = ⊥
IsTextFault text (BadScript line kind) = script_of text ≡ Bad line kind
IsTextFault text (Unread input) = ⊥
IsTextFault text OutOfMemory = Unit {0}

-- image and script were read, are good, and fit
pub record AreInputsOf (old : Outside) (image_name script_name image : List ℕ) (script : ScriptValue) : Type 0 where
  pub image_of : IsImageOf old image_name image
  pub script_of : IsScriptOf old script_name script
  pub fits : fits_chip script.chip image ≡ true

-- image and script are there and good, and the image is longer than the script's chip memory
pub record HoldsMisfit (image_name script_name : List ℕ) (files : Files) : Type 0 where
  pub image : List ℕ
  pub script : ScriptValue
  pub image_there : file files image_name ≡ Some image
  pub image_good : is_image image ≡ true
  pub script_good : HoldsScript script_name script files
  pub misfits : fits_chip script.chip image ≡ false

-- the image is good, and the script bad at a line
pub record HoldsBadLine (image_name script_name : List ℕ) (line : ℕ) (kind : BadKind) (files : Files) : Type 0 where
  pub image : HoldsImage image_name files
  pub script : HoldsBadScript script_name line kind files

-- why the two inputs of a run were not read
abbrev pub IsInputFault : Outside → Outside → List ℕ → List ℕ → InputFault → Type 0
IsInputFault old new image script BadImage = WhereTold old.files (HoldsNoImage image) ⊎ WhereTold old.files (HoldsMisfit image script)
IsInputFault old new image script (BadScript line kind) = WhereTold old.files (HoldsBadLine image script line kind)
IsInputFault old new image script (Unread Image) = Rose old.read_faults new.read_faults
IsInputFault old new image script (Unread Script) = Rose old.read_faults new.read_faults × WhereTold old.files (HoldsImage image)
IsInputFault old new image script OutOfMemory = Unit {0}

-- what the text of such a fault tells is so: the bad line of the script; and the script is named only where the image has the form of one
abbrev pub IsToldOfInputs : Outside → List ℕ → List ℕ → InputFault → Type 0
IsToldOfInputs old image script BadImage = Unit {0}
IsToldOfInputs old image script (BadScript line kind) = WhereTold old.files (HoldsBadLine image script line kind)
IsToldOfInputs old image script (Unread Image) = Unit {0}
IsToldOfInputs old image script (Unread Script) = WhereTold old.files (HoldsImage image)
IsToldOfInputs old image script OutOfMemory = Unit {0}
