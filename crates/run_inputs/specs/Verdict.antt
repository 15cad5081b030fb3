-- What the two inputs of a run come to.
use Rattle.std.specs.Prelude.{ℕ, if◌then◌else◌, List, Option, Some, None}
use Rattle.ocs_base.specs.Image.{is_image, fits_chip}
use Rattle.ocs_base.specs.Script.{ScriptValue}
use Rattle.ocs_io.specs.Place.{Files, file}
use Rattle.script_read.specs.Grammar.{script_of, Good as GoodScript, Bad as BadLine, Verdict as ScriptVerdict}
use Rattle.script_read.specs.declared.fault.BadKind.{BadKind}

-- the first of these that applies, in the order in which the inputs are read
pub data InputsVerdict : Type 0 where
  -- an input file is not there, where its read is come to
  Absent : List ℕ → InputsVerdict
  -- the image is odd, shorter than 8 bytes or longer than the greater chip memory; or the script is good, and the image longer than
  -- its chip memory
  BadImage : InputsVerdict
  -- the script is bad at a line
  BadScript : ℕ → BadKind → InputsVerdict
  -- an image and a script whose chip memory it fits
  Good : List ℕ → ScriptValue → InputsVerdict

abbrev pub of_script : List ℕ → ScriptVerdict → InputsVerdict
of_script image (GoodScript script) = if fits_chip script.chip image then Good image script else BadImage
of_script image (BadLine line kind) = BadScript line kind

abbrev pub of_text : List ℕ → List ℕ → Option (List ℕ) → InputsVerdict
of_text script_name image None = Absent script_name
of_text script_name image (Some text) = of_script image (script_of text)

abbrev pub of_image : List ℕ → List ℕ → Files → Option (List ℕ) → InputsVerdict
of_image image_name script_name files None = Absent image_name
of_image image_name script_name files (Some image) =
    if is_image image then of_text script_name image (file files script_name) else BadImage

abbrev pub inputs_verdict : List ℕ → List ℕ → Files → InputsVerdict
inputs_verdict image_name script_name files = of_image image_name script_name files (file files image_name)
