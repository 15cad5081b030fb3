-- The script's events: those that are left, and what those of a clock do.
use Rattle.std.specs.Prelude.{◌≡◌, ◌<◌, ◌≤◌, ◌-◌, ℕ, true, List, length, drop, Option, Some, None}
use Rattle.ocs_base.specs.declared.beam.Beam.{Beam}
use Rattle.ocs_base.specs.declared.script.At.{At}
use Rattle.ocs_base.specs.declared.system.System.{System}
use Rattle.out_files.specs.OutFiles.{OutFilesValue}
use Rattle.serial_model.specs.Beam.{IsOnScreen, place_of}
use Rattle.serial_model.specs.Events.{IsQueue, due_events, do_events}
use Rattle.serial_model.specs.State.{State}
use Rattle.serial_model.specs.declared.picture.Touch.{Touch}
use Rattle.serial_bands.specs.Bands.{has_clx_read}
use Rattle.machine.specs.Machine.{MachineValue, Start, Stands, IsMachineOf}
use Rattle.picture_log.specs.Log.{with_script_touch}
use Rattle.picture_log.specs.declared.log.Log.{Log}

-- events that are none of them before the place, in order and in the limits of some run
pub record IsLeft (place : ℕ) (events : List At) : Type 0 where
  pub system : System
  pub frames : ℕ
  pub queue : IsQueue system frames place events

-- events are the last of others
pub record IsRest (events left : List At) : Type 0 where
  pub within : length left ≤ length events
  pub same : left ≡ drop (length events - length left) events

-- every later place has the same events due
abbrev pub HasLater : Beam → List At → List At → Type 0
HasLater b events left =
    (later : Beam) → IsOnScreen later → place_of b < place_of later → due_events later events ≡ due_events later left

-- events happen in their order, where the collision bits are these if one of them reads them
abbrev pub MakesEvents : ℕ → List At → MachineValue → OutFilesValue → MachineValue → OutFilesValue → Type 0
MakesEvents clx events old out new after =
    (start : Start) (s : State) → (has_clx_read events ≡ true → s.clx ≡ clx) → Stands start old out s →
    Stands start new after (do_events events s)

-- the touch of an event is noted, if it has one
abbrev pub with_touch_if_any : ℕ → Option Touch → Log → Log
with_touch_if_any c None log = log
with_touch_if_any c (Some touch) log = with_script_touch c touch log

-- it stands for some state
abbrev pub IsMachine : MachineValue → Type 0
IsMachine m = (s : State) × IsMachineOf m s
