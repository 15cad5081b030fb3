-- A script as contracts see it.
use Rattle.std.specs.Prelude.{ℕ, Bool, List}
use Rattle.ocs_base.specs.declared.chip_size.ChipSize.{ChipSize}
use Rattle.ocs_base.specs.declared.script.At.{At}
use Rattle.ocs_base.specs.declared.system.System.{System}

pub record ScriptValue : Type 0 where
  -- whether the processor is started
  pub cpu : Bool
  -- how many frames the run shows
  pub frames : ℕ
  -- how much chip memory the machine has
  pub chip : ChipSize
  -- whose beam it has
  pub system : System
  -- the timed inputs, in the order of the text
  pub events : List At
