-- What a clock says of the slot of the bus.
use Rattle.std.specs.Prelude.{◌≡◌}
use Rattle.serial_model.specs.State.{State}
use Rattle.serial_model.specs.Tick.{ask_of, answer_of}
use Rattle.foreground.specs.declared.slot.Slot.{Slot}
use Rattle.serial_model.specs.RegisterRead.{register_read}

-- it is what the owner of the slot asks for in the state in which a clock's access is made, and such a word of its answer
pub record IsSlotOf (slot : Slot) (s : State) : Type 0 where
  pub ask : slot.ask ≡ ask_of s
  pub read : slot.read ≡ register_read (ask_of s) (answer_of s)
