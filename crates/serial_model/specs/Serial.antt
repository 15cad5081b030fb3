-- The serial run: the states from reset, each the tick of the one before.
use Rattle.std.specs.Prelude.{◌≡◌, ℕ, zero, suc, ◌<◌, List}
use Rattle.ocs_base.specs.Script.{ScriptValue}
use Rattle.serial_model.specs.Side.{SideValue, no_side}
use Rattle.serial_model.specs.State.{State, reset}
use Rattle.serial_model.specs.Tick.{tick}

-- the state after so many colour clocks, over a side as it is at reset
unfoldable pub state_over : SideValue → List ℕ → ScriptValue → ℕ → State
state_over side image script zero = reset side image script.chip script.cpu
state_over side image script (suc n) = tick script.system script.events (state_over side image script n)

-- the run ends with the first state whose frame is the script's number of frames
pub record IsEndOver (side : SideValue) (image : List ℕ) (script : ScriptValue) (clocks : ℕ) : Type 0 where
  pub ended : (state_over side image script clocks).beam.frame ≡ script.frames
  pub running : (n : ℕ) → n < clocks → (state_over side image script n).beam.frame < script.frames

-- the machine without a side
abbrev pub state_at : List ℕ → ScriptValue → ℕ → State
state_at image script clocks = state_over no_side image script clocks

abbrev pub IsEnd : List ℕ → ScriptValue → ℕ → Type 0
IsEnd image script clocks = IsEndOver no_side image script clocks
