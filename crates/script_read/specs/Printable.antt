-- The scripts that have a text.
use Rattle.std.specs.Prelude.{◌+◌, ◌≤◌, length}
use Rattle.ocs_base.specs.Limits.{IsRunnable}
use Rattle.ocs_base.specs.Script.{ScriptValue}
use Rattle.script_read.specs.Versions.{head_size, lowest}

-- in the limits, in order, and of few enough events for 100,000 lines: the head of the lowest version that says it, a line for each
-- event, and the end line
pub record IsPrintable (script : ScriptValue) : Type 0 where
  pub runnable : IsRunnable script
  pub lines : head_size (lowest script.chip script.system) + length script.events + 1 ≤ 100000
