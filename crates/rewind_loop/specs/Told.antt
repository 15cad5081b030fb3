-- What is told of a clock that was gone to.
use Rattle.std.specs.Prelude.{ℕ, sum}
use Rattle.serial_model.specs.Registers.{dmacon_of, kept_word}
use Rattle.serial_model.specs.State.{State}
use Rattle.rewind_loop.specs.Places.{Arrival}
use Rattle.rewind_loop.specs.declared.arrived.Arrived.{Arrived}

-- of the state at that clock, by the states in which the clocks begin
abbrev pub told_of : (ℕ → State) → Arrival → Arrived
told_of states arrival =
    let s = states arrival.at in
    record {
      at = arrival.at;
      from = arrival.from;
      beam = s.beam;
      dmacon = dmacon_of s.chips.registers;
      colour = kept_word s.chips.registers 0x180;
      sum = sum s.memory;
    }
