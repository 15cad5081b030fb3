-- What stands after each answer of a create or an append of one file.
use Rattle.std.specs.Prelude.{◌≡◌, ℕ, ◌<◌, ◌⊎◌, List, [], length, take, Result, Ok, Err}
use Rattle.ocs_io.specs.Place.{Outside, with_file, grown}
use Rattle.out_files.specs.declared.fault.OutFile.{OutFile}
use Rattle.out_files.specs.declared.fault.WriteFault.{WriteFault}
use Rattle.out_files.specs.declared.fault.WriteFault.TheVariants.{Failed, OutOfMemory}
use Rattle.out_files.specs.Answers.{appended}

abbrev pub MakeAnswers : List ℕ → OutFile → Outside → Outside → Result (Unit {0}) WriteFault → Type 0
MakeAnswers name file old new (Ok done) = new.files ≡ with_file old.files name []
MakeAnswers name file old new (Err (Failed named)) =
    (named ≡ file) × ((new.files ≡ old.files) ⊎ (new.files ≡ with_file old.files name []))
MakeAnswers name file old new (Err OutOfMemory) = new.files ≡ old.files

-- the piece is in the file and no longer pending
pub record Gave (name was now : List ℕ) (old new : Outside) : Type 0 where
  pub files : new.files ≡ appended old.files name was
  pub rest : now ≡ []

-- a part of the piece is in the file, and all of it is still pending
pub record GaveSome (name : List ℕ) (file named : OutFile) (was now : List ℕ) (old new : Outside) : Type 0 where
  pub right : named ≡ file
  pub pending : 0 < length was
  pub count : ℕ
  pub files : new.files ≡ grown old.files name (take count was)
  pub rest : now ≡ was

pub record GaveNone (was now : List ℕ) (old new : Outside) : Type 0 where
  pub files : new.files ≡ old.files
  pub rest : now ≡ was

abbrev pub GiveAnswers : List ℕ → OutFile → List ℕ → List ℕ → Outside → Outside → Result (Unit {0}) WriteFault → Type 0
GiveAnswers name file was now old new (Ok done) = Gave name was now old new
GiveAnswers name file was now old new (Err (Failed named)) = GaveSome name file named was now old new
GiveAnswers name file was now old new (Err OutOfMemory) = GaveNone was now old new
