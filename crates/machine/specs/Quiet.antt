-- Clocks at which nobody asks for the bus and nothing is due, passed over at once by the machine.
use Rattle.std.specs.Prelude.{◌≡◌, ◌<◌, ℕ, List, []}
use Rattle.ocs_base.specs.declared.script.At.{At}
use Rattle.ocs_base.specs.declared.system.System.{System}
use Rattle.serial_model.specs.Events.{due_events}
use Rattle.serial_model.specs.Processor.{Processor}
use Rattle.serial_model.specs.State.{State}
use Rattle.quiet_clocks.specs.QuietClocks.{clocks, IsQuietSpan}
use Rattle.serial_model.specs.Beam.{later_beam}
use Rattle.machine.specs.Machine.{MachineValue, IsMachineOf}

-- n clocks from a state on are quiet, and the machine stands for the state behind them
pub record PassesClocks (events : List At) (n : ℕ) (s : State) (new : MachineValue) : Type 0 where
  pub processors : ℕ → Processor
  pub quiet : IsQuietSpan events s n processors
  pub stands : (system : System) → IsMachineOf new (clocks system events n s)

-- whatever state it stood for, if none of these events is due in the n clocks
abbrev pub PassesOver : ℕ → MachineValue → MachineValue → Type 0
PassesOver n old new =
    (events : List At) (s : State) → IsMachineOf old s → ((k : ℕ) → k < n → due_events (later_beam k old.beam) events ≡ []) →
    PassesClocks events n s new
