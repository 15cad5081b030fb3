-- What stands after each answer of the calls that write.
use Rattle.std.specs.Prelude.{◌≡◌, ℕ, ◌+◌, ◌<◌, ◌≤◌, ◌⊎◌, List, [], ◌∷◌, length, take, Option, Result, Ok, Err}
use Rattle.ocs_io.specs.Place.{Files, Outside, with_file, grown}
use Rattle.ocs_io.specs.declared.place.WriteRefusal.{WriteRefusal}
use Rattle.ocs_io.specs.declared.place.WriteRefusal.TheVariants.{Failed as Refused, OutOfMemory as NoRoom}
use Rattle.out_files.specs.declared.fault.OutFile.{OutFile}
use Rattle.out_files.specs.declared.fault.OutFile.TheVariants.{Frames, Trace, Memory}
use Rattle.out_files.specs.declared.fault.WriteFault.{WriteFault}
use Rattle.out_files.specs.declared.fault.WriteFault.TheVariants.{Failed, OutOfMemory}
use Rattle.out_files.specs.OutFiles.{OutNames, OutFilesValue, frames_given, all_given}

abbrev pub fault_of : WriteRefusal → OutFile → WriteFault
fault_of Refused file = Failed file
fault_of NoRoom file = OutOfMemory

-- the fault that the outside refused
abbrev pub NamesFile : WriteFault → Type 0
NamesFile (Failed file) = Unit {0}
NamesFile OutOfMemory = ⊥

-- the names in the order in which the files are created
abbrev pub in_order : OutNames → List (List ℕ)
in_order names = names.frames ∷ names.trace ∷ names.memory ∷ []

-- how many files stand before this one in that order
abbrev pub before_file : OutFile → ℕ
before_file Frames = 0
before_file Trace = 1
before_file Memory = 2

-- the files, those of the names made empty
abbrev pub with_empty : List (List ℕ) → Option Files → Option Files
with_empty [] files = files
with_empty (name ∷ names) files = with_empty names (with_file files name [])

-- those before the named file are empty, those after it are as before; it is one or the other
abbrev pub CreateAnswers : OutNames → Outside → Outside → Result (Unit {0}) WriteFault → Type 0
CreateAnswers names old new (Ok done) = new.files ≡ with_empty (in_order names) old.files
CreateAnswers names old new (Err (Failed file)) =
    (created : ℕ) × (before_file file ≤ created) × (created ≤ before_file file + 1)
    × (new.files ≡ with_empty (take created (in_order names)) old.files)
CreateAnswers names old new (Err OutOfMemory) =
    (created : ℕ) × (new.files ≡ with_empty (take created (in_order names)) old.files)

pub record AreGrowable (growable : List ℕ → Type 0) (names : OutNames) : Type 0 where
  pub frames : growable names.frames
  pub trace : growable names.trace
  pub memory : growable names.memory

-- the files with a piece appended to one of them; nothing is appended where the piece is empty
abbrev pub appended : Option Files → List ℕ → List ℕ → Option Files
appended files name [] = files
appended files name (byte ∷ bytes) = grown files name (byte ∷ bytes)

-- the outside refused the frames file: it has a part of what was pending, and nothing else has changed
pub record FramesFailed (was now : OutFilesValue) (old new : Outside) : Type 0 where
  pub pending : 0 < length was.frames
  pub count : ℕ
  pub files : new.files ≡ grown old.files was.names.frames (take count was.frames)
  pub kept : now ≡ was

-- the outside refused the trace: the frames file has all that was pending, and the trace a part of it
pub record TraceFailed (was now : OutFilesValue) (old new : Outside) : Type 0 where
  pub pending : 0 < length was.trace
  pub count : ℕ
  pub files : new.files ≡ grown (appended old.files was.names.frames was.frames) was.names.trace (take count was.trace)
  pub kept : now ≡ frames_given was

-- nothing has changed
pub record GivesNothing (was now : OutFilesValue) (old new : Outside) : Type 0 where
  pub files : new.files ≡ old.files
  pub kept : now ≡ was

-- the frames file has all that was pending for it, and the trace is as before
pub record GivesFrames (was now : OutFilesValue) (old new : Outside) : Type 0 where
  pub files : new.files ≡ appended old.files was.names.frames was.frames
  pub kept : now ≡ frames_given was

-- both files have all that was pending for them
pub record GivesAll (was now : OutFilesValue) (old new : Outside) : Type 0 where
  pub files : new.files ≡ appended (appended old.files was.names.frames was.frames) was.names.trace was.trace
  pub kept : now ≡ all_given was

abbrev pub FlushAnswers : OutFilesValue → OutFilesValue → Outside → Outside → Result (Unit {0}) WriteFault → Type 0
FlushAnswers was now old new (Ok done) = GivesAll was now old new
FlushAnswers was now old new (Err (Failed Frames)) = FramesFailed was now old new
FlushAnswers was now old new (Err (Failed Trace)) = TraceFailed was now old new
FlushAnswers was now old new (Err (Failed Memory)) = ⊥
FlushAnswers was now old new (Err OutOfMemory) = GivesNothing was now old new ⊎ GivesFrames was now old new

-- the text is appended to the file of the name, or a part of it, or nothing
abbrev pub MemoryAnswers : List ℕ → List ℕ → Outside → Outside → Result (Unit {0}) WriteFault → Type 0
MemoryAnswers name text old new (Ok done) = new.files ≡ grown old.files name text
MemoryAnswers name text old new (Err (Failed Frames)) = ⊥
MemoryAnswers name text old new (Err (Failed Trace)) = ⊥
MemoryAnswers name text old new (Err (Failed Memory)) = (count : ℕ) × (new.files ≡ grown old.files name (take count text))
MemoryAnswers name text old new (Err OutOfMemory) = new.files ≡ old.files
