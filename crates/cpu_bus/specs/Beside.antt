-- What a clock makes of the processor whose slot is not its own.
use Rattle.std.specs.Prelude.{◌≡◌, ℕ, Bool, true, false, not, ◌&&◌, ◌==◌, ◌+◌, nat_le, if◌then◌else◌, Option, Some, None, is_some}
use Rattle.serial_model.specs.declared.processor.Wait.{Wait}
use Rattle.serial_model.specs.declared.processor.Wait.TheVariants as W
use Rattle.cpu_bus.specs.declared.BusCpu.{BusCpu}
use Rattle.cpu_bus.specs.declared.TurnBeside.{TurnBeside}
use Rattle.cpu_bus.specs.declared.TurnBeside.TheVariants as T

-- it asks for a slot from its second clock on
abbrev pub slot_beside_by : ℕ → TurnBeside
slot_beside_by spent = if spent == 0 then T.Waits 1 else T.Asks

-- idle clocks are over with the last of them
abbrev pub idle_beside_by : ℕ → ℕ → TurnBeside
idle_beside_by clocks spent = if nat_le clocks (spent + 1) then T.GoesOn else T.Waits (spent + 1)

abbrev pub turn_beside_by : Wait → ℕ → TurnBeside
turn_beside_by (W.Slot ask) spent = slot_beside_by spent
turn_beside_by (W.Cia cia reg byte) spent = T.Other
turn_beside_by W.Unmapped spent = T.Other
turn_beside_by (W.Idle clocks) spent = idle_beside_by clocks spent
turn_beside_by W.Halted spent = T.Other

abbrev pub turn_beside_with : Option ℕ → Wait → ℕ → TurnBeside
turn_beside_with (Some word) wait spent = T.Other
turn_beside_with None wait spent = turn_beside_by wait spent

-- one that is off waits for nothing
abbrev pub turn_beside_of : BusCpu → TurnBeside
turn_beside_of now = if now.on then turn_beside_with now.given now.wait now.spent else T.Waits now.spent

-- it only waits
abbrev pub only_waits : TurnBeside → Bool
only_waits (T.Waits spent) = true
only_waits T.Asks = true
only_waits T.GoesOn = false
only_waits T.Other = false

-- it is on, and what it waits for has just begun
pub record BeginsAnew (now : BusCpu) : Type 0 where
  pub on : now.on ≡ true
  pub spent : now.spent ≡ 0
  pub given : now.given ≡ None

abbrev pub begins_anew_of : BusCpu → Bool
begins_anew_of now = now.on && now.spent == 0 && not (is_some now.given)
