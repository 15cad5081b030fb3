-- A colour clock at which nothing is due: only its slot, the picture step and the processor's turn make anything.
use Rattle.std.specs.Prelude.{◌≡◌, ℕ, Bool, false, not, ◌&&◌, nat_le, List, [], ◌++◌, bit_or}
use Rattle.irq_cia.specs.Interrupts.{after_request}
use Rattle.ocs_base.specs.declared.script.At.{At}
use Rattle.ocs_base.specs.declared.system.System.{System}
use Rattle.serial_model.specs.declared.bus.Ask.{Ask}
use Rattle.serial_model.specs.declared.bus.SideAsk.{SideAsk}
use Rattle.serial_model.specs.Beam.{is_line_start}
use Rattle.serial_model.specs.Bus.{ask_at, answer_to, answer_chips, made_by_ask}
use Rattle.serial_model.specs.Cias.{line_bits, tick_timers}
use Rattle.serial_model.specs.Events.{due_events}
use Rattle.serial_model.specs.Made.{state_after}
use Rattle.serial_model.specs.Picture.{step_of, after_step}
use Rattle.serial_model.specs.Registers.{blitter_first, dmacon_of}
use Rattle.serial_model.specs.Side.{tick_side, ask_of_side, answer_side}
use Rattle.serial_model.specs.State.{Chips, State}
use Rattle.serial_model.specs.Tick.{side_bits, run_processor, advance_beam, tick}

-- these bits of INTREQ and those of the CIAs' lines are requested already
abbrev pub AsksNothingNew : ℕ → Chips → Type 0
AsksNothingNew bits c = after_request (bit_or bits (line_bits c)) c.irq ≡ c.irq

-- no line starts, no event of the script is due, and no interrupt is requested that was not requested before
pub record IsPlain (events : List At) (s : State) : Type 0 where
  pub inner : is_line_start s.beam ≡ false
  pub due : due_events s.beam events ≡ []
  pub lines : AsksNothingNew (side_bits s) (tick_timers s.t s.chips)

-- the state in which the access of a plain clock is made: the timers and the side have ticked, and the picture step is made
abbrev pub shown_at : System → State → State
shown_at system s = record s {
  chips = tick_timers s.t s.chips;
  side = tick_side s.beam (dmacon_of s.chips.registers) s.side;
  picture = after_step (step_of system s.beam.v s.beam.h s.picture) s.picture;
  clx = bit_or s.clx (step_of system s.beam.v s.beam.h s.picture).clx;
  shown = s.shown ++ (step_of system s.beam.v s.beam.h s.picture).bytes;
}

-- the state once the owner of the slot, who asks for this, has its answer, and what the access makes is done
abbrev pub answered_with : Ask → ℕ → State → State
answered_with ask word s = state_after (made_by_ask ask word s.chips) (record s {
  chips = answer_chips s.beam ask word s.chips;
  side = answer_side ask word s.side;
})

abbrev pub access_by : Ask → State → State
access_by ask s = answered_with ask (answer_to ask s.beam s.clx s.chips s.memory) s

-- the rest of a clock from the state in which its access is made: the access of the slot's owner, the processor's turn, and the
-- beam's advance
abbrev pub rest_of : System → Ask → State → State
rest_of system ask s = advance_beam system (run_processor (access_by ask s))

-- what the side asks for at this clock, once it has ticked
abbrev pub asked_by_side : State → SideAsk
asked_by_side s =
    ask_of_side s.beam (dmacon_of s.chips.registers) (tick_side s.beam (dmacon_of s.chips.registers) s.side)

-- a plain clock whose owner asks for this
abbrev pub OwnedTick : Type 0
OwnedTick = (system : System) (events : List At) (s : State) (ask : Ask) → IsPlain events s →
    ask_at (asked_by_side s) s.beam s.chips ≡ ask →
    tick system events s ≡ rest_of system ask (shown_at system s)

-- the processor comes before the blitter: BLTPRI is clear and it has missed three clocks
abbrev pub comes_first : Chips → Bool
comes_first c = not (blitter_first c.registers) && nat_le 3 c.missed
