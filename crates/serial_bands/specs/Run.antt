-- A run of the machine, its states, and what it takes.
use Rattle.std.specs.Prelude.{◌≡◌, ◌≤◌, ℕ, List, true}
use Rattle.ocs_base.specs.Image.{is_image, fits_chip}
use Rattle.ocs_base.specs.Limits.{IsRunnable}
use Rattle.ocs_base.specs.Script.{ScriptValue}
use Rattle.ocs_base.specs.declared.beam.Beam.{Beam}
use Rattle.serial_model.specs.Serial.{state_over, IsEndOver}
use Rattle.serial_model.specs.Side.{SideValue}
use Rattle.serial_model.specs.State.{State}

-- what a run is made of, with a side as a value of some type
pub record RunOf (S : Type 0) : Type 0 where
  -- the bytes from which chip memory is made
  pub image : List ℕ
  pub script : ScriptValue
  -- the height of a band, in lines
  pub height : ℕ
  -- the side as it is at reset
  pub side : S

-- a run: with what its side does
abbrev pub RunValue : Type 0
RunValue = RunOf SideValue

abbrev pub run_over : {S : Type 0} → (S → SideValue) → RunOf S → RunValue
run_over seen run = record { image = run.image; script = run.script; height = run.height; side = seen run.side }

-- what a run takes: an image that is not longer than the script's chip memory, a script in its limits and in order, and a
-- height of 1 to the lines of a long field
pub record IsGoodRun {S : Type 0} (run : RunOf S) : Type 0 where
  pub image : is_image run.image ≡ true
  pub fits : fits_chip run.script.chip run.image ≡ true
  pub script : IsRunnable run.script
  pub least : 1 ≤ run.height
  pub most : run.height ≤ 313

-- the state in which a clock begins
abbrev pub state_of : RunValue → ℕ → State
state_of run c = state_over run.side run.image run.script c

-- the run ends at a clock
abbrev pub IsEndOf : RunValue → ℕ → Type 0
IsEndOf run clocks = IsEndOver run.side run.image run.script clocks

abbrev pub beam_at : RunValue → ℕ → Beam
beam_at run c = (state_of run c).beam

-- the words of chip memory at the start of a clock
abbrev pub run_memory : RunValue → ℕ → List ℕ
run_memory run c = (state_of run c).memory
