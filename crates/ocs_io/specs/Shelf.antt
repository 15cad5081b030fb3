-- A place in memory: its files, what was said, and the calls that are to fail.
use Rattle.std.specs.Prelude.{◌≡◌, ℕ, ◌^◌, ◌<◌, ◌≤◌, ◌⊎◌, Bool, true, false, ◌==◌, List, [], ◌++◌, length, Some, None, IsSome, unwrap_or, Result, Ok, Err, refl}
use Rattle.std.specs.List.{list_any}
use Rattle.std.specs.FinMap.{get, insert}
use Rattle.std.specs.Coded.{Coded, code_by, coded×, coded_ℕ, coded_list}
use Rattle.ocs_io.specs.Place.{Files, Outside, next_number}
use Rattle.ocs_io.specs.Files.{files_code}
use Rattle.ocs_io.specs.Halves.{half}
use Rattle.ocs_io.specs.Answers.{HoldsMore}
use Rattle.ocs_io.specs.declared.place.ReadRefusal.{ReadRefusal}
use Rattle.ocs_io.specs.declared.place.ReadRefusal.TheVariants.{Failed as ReadFailed, TooLong, OutOfMemory as NoRoomToRead}
use Rattle.ocs_io.specs.declared.place.WriteRefusal.{WriteRefusal}
use Rattle.ocs_io.specs.declared.place.WriteRefusal.TheVariants.{Failed, OutOfMemory}

pub record ShelfValue : Type 0 where
  pub files : Files
  pub said : List ℕ
  pub read_faults : ℕ
  pub write_faults : ℕ
  pub say_faults : ℕ
  -- the number of the next call, from 0 over all four kinds
  pub call : ℕ
  -- the numbers of the calls that are to fail
  pub failing : List ℕ

abbrev pub shelf_code : Coded ShelfValue
shelf_code =
    code_by (Files × (List ℕ × (ℕ × (ℕ × (ℕ × (ℕ × List ℕ))))))
    (coded× files_code (coded× (coded_list coded_ℕ) (coded× coded_ℕ (coded× coded_ℕ (coded× coded_ℕ (coded× coded_ℕ (coded_list coded_ℕ)))))))
    (λ s. (s.files, (s.said, (s.read_faults, (s.write_faults, (s.say_faults, (s.call, s.failing)))))))
    (λ t. record {
      files = t.0;
      said = t.1.0;
      read_faults = t.1.1.0;
      write_faults = t.1.1.1.0;
      say_faults = t.1.1.1.1.0;
      call = t.1.1.1.1.1.0;
      failing =
          t.1.1.1.1.1.1;
    })
    (λ _. refl)

-- what is seen of it from outside: everything
abbrev pub outside_of : ShelfValue → Outside
outside_of s = record { files = Some s.files; said = Some s.said; read_faults = s.read_faults; write_faults = s.write_faults; say_faults = s.say_faults }

-- the next call is one of those that are to fail
abbrev pub is_to_fail : ShelfValue → Bool
is_to_fail s = list_any (λ n. n == s.call) s.failing

-- one call later, and what a refused call of each kind counts
abbrev pub called : ShelfValue → ShelfValue
called s = record s { call = next_number s.call }

abbrev pub read_failed : ShelfValue → ShelfValue
read_failed s = record s { read_faults = next_number s.read_faults }

abbrev pub write_failed : ShelfValue → ShelfValue
write_failed s = record s { write_faults = next_number s.write_faults }

abbrev pub say_failed : ShelfValue → ShelfValue
say_failed s = record s { say_faults = next_number s.say_faults }

-- a file set, a file grown, a text said
abbrev pub with_bytes : ShelfValue → List ℕ → List ℕ → ShelfValue
with_bytes s name bytes = record s { files = insert s.files name bytes }

abbrev pub appended : ShelfValue → List ℕ → List ℕ → ShelfValue
appended s name piece = with_bytes s name (unwrap_or (get s.files name) [] ++ piece)

abbrev pub after_saying : ShelfValue → List ℕ → ShelfValue
after_saying s piece = record s { said = s.said ++ piece }

-- what a read of files answers and leaves in the empty `read`
abbrev pub FileReads : Files → List ℕ → ℕ → List ℕ → Result (Unit {0}) ReadRefusal → Type 0
FileReads files name cap read (Ok done) = (get files name ≡ Some read) × (length read ≤ cap)
FileReads files name cap read (Err ReadFailed) = (get files name ≡ None) × (read ≡ [])
FileReads files name cap read (Err TooLong) = HoldsMore name cap files × (read ≡ [])
FileReads files name cap read (Err NoRoomToRead) = read ≡ []

-- what each call of a shelf answers and leaves
abbrev pub ShelfReads : ShelfValue → ShelfValue → List ℕ → ℕ → List ℕ → Result (Unit {0}) ReadRefusal → Type 0
ShelfReads old new name cap read (Ok done) = (is_to_fail old ≡ false) × (get old.files name ≡ Some read) × (length read ≤ cap) × (new ≡ called old)
ShelfReads old new name cap read (Err ReadFailed) = ((is_to_fail old ≡ true) ⊎ (get old.files name ≡ None)) × (read ≡ []) × (new ≡ read_failed (called old))
ShelfReads old new name cap read (Err TooLong) = (is_to_fail old ≡ false) × HoldsMore name cap old.files × (read ≡ []) × (new ≡ called old)
ShelfReads old new name cap read (Err NoRoomToRead) = (is_to_fail old ≡ false) × (read ≡ []) × (new ≡ called old)

abbrev pub ShelfCreates : ShelfValue → ShelfValue → List ℕ → Result (Unit {0}) WriteRefusal → Type 0
ShelfCreates old new name (Ok done) = (is_to_fail old ≡ false) × (new ≡ with_bytes (called old) name [])
ShelfCreates old new name (Err Failed) = (is_to_fail old ≡ true) × (new ≡ write_failed (called old))
ShelfCreates old new name (Err OutOfMemory) = (is_to_fail old ≡ false) × (new ≡ called old)

abbrev pub ShelfAppends : ShelfValue → ShelfValue → List ℕ → List ℕ → Result (Unit {0}) WriteRefusal → Type 0
ShelfAppends old new name piece (Ok done) = (is_to_fail old ≡ false) × (new ≡ appended (called old) name piece)
ShelfAppends old new name piece (Err Failed) = (is_to_fail old ≡ true) × (new ≡ write_failed (appended (called old) name (half piece)))
ShelfAppends old new name piece (Err OutOfMemory) = new ≡ called old

abbrev pub ShelfSays : ShelfValue → ShelfValue → List ℕ → Result (Unit {0}) WriteRefusal → Type 0
ShelfSays old new piece (Ok done) = (is_to_fail old ≡ false) × (new ≡ after_saying (called old) piece)
ShelfSays old new piece (Err Failed) = (is_to_fail old ≡ true) × (new ≡ say_failed (after_saying (called old) (half piece)))
ShelfSays old new piece (Err OutOfMemory) = new ≡ called old

-- a file of that name is there
abbrev pub IsHeld : Files → List ℕ → Type 0
IsHeld files name = IsSome (get files name)

-- every name
abbrev pub IsAnyName : List ℕ → Type 0
IsAnyName name = Unit {0}

-- counts of 64 bits
pub record AreCounts (read_faults write_faults say_faults : ℕ) : Type 0 where
  pub reads : read_faults < 2 ^ 64
  pub writes : write_faults < 2 ^ 64
  pub says : say_faults < 2 ^ 64
