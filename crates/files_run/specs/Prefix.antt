-- What the three files hold after a run that was stopped.
use Rattle.std.specs.Prelude.{◌≡◌, ℕ, List, ◌++◌, Option, Some, None}
use Rattle.ocs_base.specs.Script.{ScriptValue}
use Rattle.ocs_io.specs.Place.{Files, with_file}
use Rattle.out_files.specs.OutFiles.{OutNames}
use Rattle.serial_model.specs.MemoryText.{memory_text}
use Rattle.serial_model.specs.Outputs.{frames_text}
use Rattle.serial_model.specs.Serial.{state_over, IsEndOver}
use Rattle.serial_model.specs.Side.{SideValue, no_side}
use Rattle.serial_model.specs.TraceText.{trace_text}
use Rattle.files_run.specs.Audio.{audio_text}

-- the file of the name holds these bytes, or is as before
abbrev pub with_part : Option Files → List ℕ → Option (List ℕ) → Option Files
with_part files name None = files
with_part files name (Some bytes) = with_file files name bytes

-- the bytes are the first of the text
abbrev pub IsPartOf : List ℕ → Option (List ℕ) → Type 0
IsPartOf text None = Unit {0}
IsPartOf text (Some bytes) = (rest : List ℕ) × (bytes ++ rest ≡ text)

-- each of the three files is as before or holds a part of its text, from the first byte on; every other file is as
-- before. The texts are those of the run's end
pub record LeavesPrefixesOver (side : SideValue) (image : List ℕ) (script : ScriptValue) (names : OutNames) (base new : Option Files) : Type 0 where
  pub frames : Option (List ℕ)
  pub trace : Option (List ℕ)
  pub memory : Option (List ℕ)
  pub held : new ≡ with_part (with_part (with_part base names.frames frames) names.trace trace) names.memory memory
  pub frames_part : (end : ℕ) → IsEndOver side image script end → IsPartOf (frames_text script.system (state_over side image script end).shown) frames
  pub trace_part : (end : ℕ) → IsEndOver side image script end → IsPartOf (trace_text (state_over side image script end).trace) trace
  pub memory_part : (end : ℕ) → IsEndOver side image script end → IsPartOf (memory_text (state_over side image script end).memory) memory

-- the same of the machine without a side
abbrev pub LeavesPrefixes : List ℕ → ScriptValue → OutNames → Option Files → Option Files → Type 0
LeavesPrefixes image script names base new = LeavesPrefixesOver no_side image script names base new

-- the audio file too is as before or holds a part of its text, from the first byte on, beside which each of the three is so
pub record LeavesSounded (side : SideValue) (image : List ℕ) (script : ScriptValue) (names : OutNames) (name : List ℕ) (base new : Option Files) : Type 0 where
  pub audio : Option (List ℕ)
  pub others : LeavesPrefixesOver side image script names (with_part base name audio) new
  pub audio_part : (end : ℕ) → IsEndOver side image script end → IsPartOf (audio_text side image script end) audio

-- what the files of a run hold that was stopped, by the name of its audio file where it has one
abbrev pub LeavesFiles : Option (List ℕ) → SideValue → List ℕ → ScriptValue → OutNames → Option Files → Option Files → Type 0
LeavesFiles None side image script names base new = LeavesPrefixesOver side image script names base new
LeavesFiles (Some name) side image script names base new = LeavesSounded side image script names name base new
