-- A place in memory that never fails: its files, and what was said.
use Rattle.std.specs.Prelude.{◌≡◌, ℕ, ◌≤◌, List, [], ◌++◌, length, Some, Result, Ok, Err, refl}
use Rattle.std.specs.FinMap.{get, insert}
use Rattle.std.specs.Coded.{Coded, code_by, coded×, coded_ℕ, coded_list}
use Rattle.ocs_io.specs.Place.{Files, Outside}
use Rattle.ocs_io.specs.Files.{files_code}
use Rattle.ocs_io.specs.Answers.{HoldsMore}
use Rattle.ocs_io.specs.declared.place.ReadRefusal.{ReadRefusal}
use Rattle.ocs_io.specs.declared.place.ReadRefusal.TheVariants.{Failed as ReadFailed, TooLong, OutOfMemory as NoRoomToRead}
use Rattle.ocs_io.specs.declared.place.WriteRefusal.{WriteRefusal}
use Rattle.ocs_io.specs.declared.place.WriteRefusal.TheVariants.{Failed, OutOfMemory}

pub record SureShelfValue : Type 0 where
  pub files : Files
  pub said : List ℕ

abbrev pub sure_shelf_code : Coded SureShelfValue
sure_shelf_code = code_by (Files × List ℕ) (coded× files_code (coded_list coded_ℕ)) (λ s. (s.files, s.said)) (λ t. record { files = t.0; said = t.1 })
    (λ _. refl)

-- what is seen of it from outside: everything, and never a fault
abbrev pub sure_outside : SureShelfValue → Outside
sure_outside s = record { files = Some s.files; said = Some s.said; read_faults = 0; write_faults = 0; say_faults = 0 }

-- a file set, and a text said
abbrev pub set_file : SureShelfValue → List ℕ → List ℕ → SureShelfValue
set_file s name bytes = record s { files = insert s.files name bytes }

abbrev pub after_saying : SureShelfValue → List ℕ → SureShelfValue
after_saying s piece = record s { said = s.said ++ piece }

-- what each call answers and leaves
abbrev pub SureReads : SureShelfValue → SureShelfValue → List ℕ → ℕ → List ℕ → Result (Unit {0}) ReadRefusal → Type 0
SureReads old new name cap read (Ok done) = (get old.files name ≡ Some read) × (length read ≤ cap) × (new ≡ old)
SureReads old new name cap read (Err ReadFailed) = ⊥
SureReads old new name cap read (Err TooLong) = HoldsMore name cap old.files × (read ≡ []) × (new ≡ old)
SureReads old new name cap read (Err NoRoomToRead) = (read ≡ []) × (new ≡ old)

-- the call is done and leaves `done`, or it wants memory and leaves all as before
abbrev pub SureWrites : SureShelfValue → SureShelfValue → SureShelfValue → Result (Unit {0}) WriteRefusal → Type 0
SureWrites old done new (Ok answer) = new ≡ done
SureWrites old done new (Err Failed) = ⊥
SureWrites old done new (Err OutOfMemory) = new ≡ old
