-- Clocks of a line that are made one behind the other.
use Rattle.std.specs.Prelude.{◌≡◌, ◌≤◌, ◌<◌, ℕ, ◌+◌, false, []}
use Rattle.serial_model.specs.Beam.{later_beam}
use Rattle.serial_model.specs.Events.{due_events}
use Rattle.foreground.specs.Fore.{ForeValue, is_done}

-- the next n clocks lie behind the first one of this line, before its last one and before the clock `limit`; no event of the script
-- is due in them, and the run has not come to its end
pub record AreInLine (limit n : ℕ) (fore : ForeValue) : Type 0 where
  pub inner : 0 < fore.machine.beam.h
  pub line : fore.machine.beam.h + n ≤ 226
  pub before : fore.machine.t + n ≤ limit
  pub due : (k : ℕ) → k < n → due_events (later_beam k fore.machine.beam) fore.run.script.events ≡ []
  pub running : is_done fore ≡ false
