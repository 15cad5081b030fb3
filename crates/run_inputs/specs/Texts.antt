-- What is said of a fault.
use Rattle.std.specs.Prelude.{◌≡◌, ℕ, List, ◌++◌, ◌⊎◌, take, codes, decimal}
use Rattle.ocs_io.specs.Place.{Outside, Rose, said_more}
use Rattle.run_inputs.specs.declared.fault.InputFault.{InputFault}
use Rattle.run_inputs.specs.declared.fault.InputFault.TheVariants.{BadImage, BadScript, Unread, OutOfMemory}
use Rattle.run_inputs.specs.declared.fault.InputFile.{InputFile}
use Rattle.run_inputs.specs.declared.fault.InputFile.TheVariants.{Image, Script}
use Rattle.script_read.specs.KindName.{kind_name}

abbrev pub name_of_input : List ℕ → List ℕ → InputFile → List ℕ
name_of_input image script Image = image
name_of_input image script Script = script

-- the text of a fault of the inputs of these names
unfoldable pub input_fault_text : List ℕ → List ℕ → InputFault → List ℕ
input_fault_text image script BadImage = codes "bad image\n"
input_fault_text image script (BadScript line kind) = codes "bad script: line " ++ decimal line ++ codes ": " ++ kind_name kind ++ codes "\n"
input_fault_text image script (Unread input) = codes "cannot read " ++ name_of_input image script input ++ codes "\n"
input_fault_text image script OutOfMemory = codes "out of memory\n"

-- a text was said: all of it, or a part of it where the outside refused
abbrev pub SaysSurely : List ℕ → Outside → Outside → Type 0
SaysSurely text old new =
    (new.said ≡ said_more old.said text)
    ⊎ ((n : ℕ) × (new.said ≡ said_more old.said (take n text)) × Rose old.say_faults new.say_faults)

-- a text was said so, or nothing where memory was wanting
abbrev pub Says : List ℕ → Outside → Outside → Type 0
Says text old new = SaysSurely text old new ⊎ (new.said ≡ old.said)

-- nothing was said, and no say was refused
pub record KeepsSaid (old new : Outside) : Type 0 where
  pub said : new.said ≡ old.said
  pub faults : new.say_faults ≡ old.say_faults
