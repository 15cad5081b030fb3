-- The log of the slots of frames of a run without a side.
use Rattle.std.specs.Prelude.{◌≡◌, ℕ, ◌-◌, ◌<◌, min, map, flat_map, List, ◌++◌}
use Rattle.std.specs.List.{range_with_len}
use Rattle.ocs_base.specs.Script.{ScriptValue}
use Rattle.ocs_base.specs.Sizes.{bytes_of}
use Rattle.ocs_base.specs.declared.beam.Beam.{Beam}
use Rattle.serial_model.specs.Serial.{state_at}
use Rattle.serial_model.specs.State.{State}
use Rattle.serial_model.specs.Tick.{before_access, ask_of, answer_of}
use Rattle.slot_log.specs.Heading.{heading}
use Rattle.slot_log.specs.Record.{SlotClock, record_bytes}

-- the place of the beam as a clock begins, and the state in which its access is made
abbrev pub beam_of : List ℕ → ScriptValue → ℕ → Beam
beam_of image script c = (state_at image script c).beam

abbrev pub access_state : List ℕ → ScriptValue → ℕ → State
access_state image script c = before_access script.system script.events (state_at image script c)

-- what the log has of a clock: that place, what the owner of the slot asks for, and the word that answers it
abbrev pub slot_clock : List ℕ → ScriptValue → ℕ → SlotClock
slot_clock image script c =
    let s = access_state image script c in
    record { beam = beam_of image script c; ask = ask_of s; answer = answer_of s }

-- the clocks from one on, so many, in order; and their records one after another
abbrev pub slot_clocks : List ℕ → ScriptValue → ℕ → ℕ → List SlotClock
slot_clocks image script first count = map (slot_clock image script) (range_with_len first count)

abbrev pub log_text : List ℕ → ScriptValue → ℕ → ℕ → List ℕ
log_text image script first count = flat_map record_bytes (slot_clocks image script first count)

-- a clock is the first of a frame; of the frame after the script's last one, it is the run's end
pub record IsFirstOf (image : List ℕ) (script : ScriptValue) (frame c : ℕ) : Type 0 where
  pub there : (beam_of image script c).frame ≡ frame
  pub before : (k : ℕ) → k < c → (beam_of image script k).frame < frame

-- The text is the log of the frames from one up to another, which is not among them. It has those of them that the script has; where
-- it has not even the first, no clock.
pub record IsLogOf (image : List ℕ) (script : ScriptValue) (from to : ℕ) (text : List ℕ) : Type 0 where
  pub first : ℕ
  pub last : ℕ
  pub begins : IsFirstOf image script (min from script.frames) first
  pub ends : IsFirstOf image script (min to script.frames) last
  pub is : text ≡ heading script.system from to (bytes_of script.chip) ++ log_text image script first (last - first)
