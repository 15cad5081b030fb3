-- A run of the machine over a side, and its files.
use Rattle.std.specs.Prelude.{◌≡◌, ℕ, ◌*◌, ◌<◌, length, List, [], ◌⊎◌, take, Option, Some, None}
use Rattle.ocs_base.specs.Script.{ScriptValue}
use Rattle.ocs_base.specs.Systems.{frame_bytes}
use Rattle.ocs_io.specs.Place.{Files, with_file}
use Rattle.out_files.specs.OutFiles.{OutNames}
use Rattle.out_files.specs.Answers.{with_empty, in_order}
use Rattle.out_files.specs.Together.{three_files, HoldParts}
use Rattle.serial_model.specs.MemoryText.{memory_text}
use Rattle.serial_model.specs.Outputs.{frames_text}
use Rattle.serial_model.specs.Serial.{state_over, IsEndOver}
use Rattle.serial_model.specs.Side.{SideValue, no_side}
use Rattle.serial_model.specs.TraceText.{trace_text}
use Rattle.files_run.specs.Audio.{audio_text}

-- the states before this clock are those of a run that goes on
pub record HasRun (side : SideValue) (image : List ℕ) (script : ScriptValue) (clocks : ℕ) : Type 0 where
  pub running : (n : ℕ) → n < clocks → (state_over side image script n).beam.frame < script.frames

-- the run came to its end, and the three files are its texts, whole; every other file is as before
pub record HasFilesOver (side : SideValue) (image : List ℕ) (script : ScriptValue) (names : OutNames) (base new : Option Files) : Type 0 where
  pub clocks : ℕ
  pub end : IsEndOver side image script clocks
  pub run : HasRun side image script clocks
  -- all pixel bytes of the script's frames were shown, so that the frames file has a heading before each of them
  pub shown : length (state_over side image script clocks).shown ≡ script.frames * frame_bytes script.system
  pub files : new ≡ (let s = state_over side image script clocks in
      three_files names base (frames_text script.system s.shown) (trace_text s.trace) (memory_text s.memory))

-- the same of the machine without a side
abbrev pub HasFiles : List ℕ → ScriptValue → OutNames → Option Files → Option Files → Type 0
HasFiles image script names base new = HasFilesOver no_side image script names base new

-- the run came to its end, and the audio file of this name is what was taken of its clocks, whole, beside which the three are its
-- texts; every other file is as before
pub record HasSounded (side : SideValue) (image : List ℕ) (script : ScriptValue) (names : OutNames) (name : List ℕ) (base new : Option Files) : Type 0 where
  pub clocks : ℕ
  pub end : IsEndOver side image script clocks
  pub others : HasFilesOver side image script names (with_file base name (audio_text side image script clocks)) new

-- the files of a run that came to its end, by the name of its audio file where it has one
abbrev pub HasAllFiles : Option (List ℕ) → SideValue → List ℕ → ScriptValue → OutNames → Option Files → Option Files → Type 0
HasAllFiles None side image script names base new = HasFilesOver side image script names base new
HasAllFiles (Some name) side image script names base new = HasSounded side image script names name base new

-- the run stopped after so many clocks: each of the three files holds a part of the text up to there, from the
-- first byte on, and the memory file nothing; every other file is as before
pub record HasParts (side : SideValue) (image : List ℕ) (script : ScriptValue) (names : OutNames) (base new : Option Files) (clocks : ℕ) : Type 0 where
  pub run : HasRun side image script clocks
  pub parts : (let s = state_over side image script clocks in HoldParts script.system names base new s.shown s.trace [])

-- the same at the end of the run, where the memory file holds a part of its text too
pub record HasEndParts (side : SideValue) (image : List ℕ) (script : ScriptValue) (names : OutNames) (base new : Option Files) (clocks : ℕ) : Type 0 where
  pub end : IsEndOver side image script clocks
  pub run : HasRun side image script clocks
  pub parts : (let s = state_over side image script clocks in HoldParts script.system names base new s.shown s.trace (memory_text s.memory))

-- the first so many of the three files were created, and nothing else was done
abbrev pub HasCreated : OutNames → Option Files → Option Files → Type 0
HasCreated names base new = (created : ℕ) × (new ≡ with_empty (take created (in_order names)) base)

-- the ways in which a whole run can have stopped by a fault of writing or want of memory
abbrev pub Remains : SideValue → List ℕ → ScriptValue → OutNames → Option Files → Option Files → Type 0
Remains side image script names base new =
    HasCreated names base new
    ⊎ (((clocks : ℕ) × HasParts side image script names base new clocks)
    ⊎ ((clocks : ℕ) × HasEndParts side image script names base new clocks))
