-- The states of a run before and after the access of a clock.
use Rattle.std.specs.Prelude.{ℕ}
use Rattle.serial_model.specs.State.{State}
use Rattle.serial_model.specs.Tick.{before_access, make_access}
use Rattle.serial_bands.specs.Run.{RunValue, state_of}

-- the state in which the access of a clock is made, and that after the access
abbrev pub access_state : RunValue → ℕ → State
access_state run c = before_access run.script.system run.script.events (state_of run c)

abbrev pub accessed_state : RunValue → ℕ → State
accessed_state run c = make_access (access_state run c)
