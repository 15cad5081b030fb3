-- What stands after each answer of a call of a place.
use Rattle.std.specs.Prelude.{◌≡◌, ℕ, ◌<◌, ◌≤◌, ◌⊎◌, List, [], length, take, Option, Some, None, Result, Ok, Err}
use Rattle.ocs_io.specs.Place.{Files, Outside, file, with_file, grown, said_more}
use Rattle.ocs_io.specs.declared.place.ReadRefusal.{ReadRefusal}
use Rattle.ocs_io.specs.declared.place.ReadRefusal.TheVariants.{Failed as ReadFailed, TooLong, OutOfMemory as NoRoomToRead}
use Rattle.ocs_io.specs.declared.place.WriteRefusal.{WriteRefusal}
use Rattle.ocs_io.specs.declared.place.WriteRefusal.TheVariants.{Failed, OutOfMemory}

-- the place tells its files, and then this holds of them
abbrev pub WhereTold : Option Files → (Files → Type 0) → Type 0
WhereTold None P = Unit {0}
WhereTold (Some files) P = P files

-- the file is there with these bytes
abbrev pub Holds : List ℕ → List ℕ → Files → Type 0
Holds name bytes files = file files name ≡ Some bytes

-- the file is there with more bytes than the cap
abbrev pub HoldsMore : List ℕ → ℕ → Files → Type 0
HoldsMore name cap files = (bytes : List ℕ) × (file files name ≡ Some bytes) × (cap < length bytes)

abbrev pub ReadAnswers : Outside → List ℕ → ℕ → List ℕ → Result (Unit {0}) ReadRefusal → Type 0
ReadAnswers old name cap read (Ok done) = WhereTold old.files (Holds name read) × (length read ≤ cap)
ReadAnswers old name cap read (Err ReadFailed) = read ≡ []
ReadAnswers old name cap read (Err TooLong) = WhereTold old.files (HoldsMore name cap) × (read ≡ [])
ReadAnswers old name cap read (Err NoRoomToRead) = read ≡ []

abbrev pub CreateAnswers : Outside → Outside → List ℕ → Result (Unit {0}) WriteRefusal → Type 0
CreateAnswers old new name (Ok done) = new.files ≡ with_file old.files name []
CreateAnswers old new name (Err Failed) = (new.files ≡ old.files) ⊎ (new.files ≡ with_file old.files name [])
CreateAnswers old new name (Err OutOfMemory) = new.files ≡ old.files

abbrev pub AppendAnswers : Outside → Outside → List ℕ → List ℕ → Result (Unit {0}) WriteRefusal → Type 0
AppendAnswers old new name piece (Ok done) = new.files ≡ grown old.files name piece
AppendAnswers old new name piece (Err Failed) = (n : ℕ) × (new.files ≡ grown old.files name (take n piece))
AppendAnswers old new name piece (Err OutOfMemory) = new.files ≡ old.files

abbrev pub SayAnswers : Outside → Outside → List ℕ → Result (Unit {0}) WriteRefusal → Type 0
SayAnswers old new piece (Ok done) = new.said ≡ said_more old.said piece
SayAnswers old new piece (Err Failed) = (n : ℕ) × (new.said ≡ said_more old.said (take n piece))
SayAnswers old new piece (Err OutOfMemory) = new.said ≡ old.said

-- the call had the memory that it wanted
abbrev pub HadMemory : Result (Unit {0}) WriteRefusal → Type 0
HadMemory (Ok done) = Unit {0}
HadMemory (Err Failed) = Unit {0}
HadMemory (Err OutOfMemory) = ⊥

-- a name that may be grown after the answer done
abbrev pub GrowsIfOk : Type 0 → Result (Unit {0}) WriteRefusal → Type 0
GrowsIfOk growable (Ok done) = growable
GrowsIfOk growable (Err refused) = Unit {0}
