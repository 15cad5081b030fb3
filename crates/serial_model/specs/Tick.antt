-- One colour clock: seven steps from state to state, in this order (profile).
use Rattle.std.specs.Prelude.{ℕ, ◌+◌, if◌then◌else◌, List, ◌++◌, bit_or}
use Rattle.ocs_base.specs.declared.beam.Beam.{Beam}
use Rattle.ocs_base.specs.declared.script.At.{At}
use Rattle.ocs_base.specs.declared.system.System.{System}
use Rattle.serial_model.specs.declared.bus.Ask.{Ask}
use Rattle.serial_model.specs.declared.bus.Made.{Made}
use Rattle.serial_model.specs.declared.bus.SideAsk.{SideAsk}
use Rattle.serial_model.specs.Beam.{next_place, is_line_start, is_field_start}
use Rattle.serial_model.specs.Bus.{ask_at, answer_to, answer_chips, made_by_ask}
use Rattle.serial_model.specs.Events.{due_events, do_events}
use Rattle.irq_cia.specs.Cia.{after_tod_pulse}
use Rattle.irq_cia.specs.Interrupts.{after_request}
use Rattle.serial_model.specs.Made.{state_after}
use Rattle.serial_model.specs.Picture.{clear_line, step_of, after_step}
use Rattle.serial_model.specs.Registers.{is_interlaced, dmacon_of}
use Rattle.serial_model.specs.Side.{tick_side, bits_of_side, ask_of_side, answer_side}
use Rattle.serial_model.specs.State.{Chips, State}
use Rattle.serial_model.specs.Cias.{time_chips}
use Rattle.serial_model.specs.Turns.{run_chips, interrupt_of, taken_lines}
use Rattle.serial_model.specs.Write.{restart_copper}

-- first: at a field's first clock the Copper starts at COP1LC, VERTB, bit 5 of INTREQ, is requested, and CIA A's time of day
-- counts one; and at a line's first clock Denise forgets the line before, and CIA B's time of day counts one
abbrev pub start_field : Chips → Chips
start_field c = record (restart_copper 1 c) { irq = after_request 0x20 c.irq; cia_a = after_tod_pulse c.cia_a }

abbrev pub start_line : Chips → Chips
start_line c = record c { cia_b = after_tod_pulse c.cia_b }

abbrev pub if_field_starts : Beam → Chips → Chips
if_field_starts b c = if is_field_start b then start_field c else c

abbrev pub start_chips : Beam → Chips → Chips
start_chips b c = if is_line_start b then start_line (if_field_starts b c) else if_field_starts b c

abbrev pub start_clock : State → State
start_clock s = record s { chips = start_chips s.beam s.chips; picture = clear_line s.beam s.picture }

-- second: the script's events of this clock happen in their order
abbrev pub run_script : List At → State → State
run_script events s = do_events (due_events s.beam events) s

-- third: the timers of the CIAs tick at each fifth clock, and then the side ticks, with the beam and the kept word of DMACON;
-- interrupts are requested, by the CIAs and by the side
abbrev pub side_bits : State → ℕ
side_bits s = bits_of_side s.beam (dmacon_of s.chips.registers) s.side

abbrev pub count_timers : State → State
count_timers s = record s {
  chips = time_chips (side_bits s) s.t s.chips;
  side = tick_side s.beam (dmacon_of s.chips.registers) s.side;
}

-- fourth: Denise shows the pixels of this clock and gathers their collisions
abbrev pub show_pixels : System → State → State
show_pixels system s = record s {
  picture = after_step (step_of system s.beam.v s.beam.h s.picture) s.picture;
  clx = bit_or s.clx (step_of system s.beam.v s.beam.h s.picture).clx;
  shown = s.shown ++ (step_of system s.beam.v s.beam.h s.picture).bytes;
}

-- fifth: the owner of the slot makes its access, chips and side have their answers, and what the access makes is done
abbrev pub side_wish : State → SideAsk
side_wish s = ask_of_side s.beam (dmacon_of s.chips.registers) s.side

abbrev pub ask_of : State → Ask
ask_of s = ask_at (side_wish s) s.beam s.chips

abbrev pub answer_of : State → ℕ
answer_of s = answer_to (ask_of s) s.beam s.clx s.chips s.memory

abbrev pub made_of : State → Made
made_of s = made_by_ask (ask_of s) (answer_of s) s.chips

abbrev pub answer_state : State → State
answer_state s = record s {
  chips = answer_chips s.beam (ask_of s) (answer_of s) s.chips;
  side = answer_side (ask_of s) (answer_of s) s.side;
}

abbrev pub make_access : State → State
make_access s = state_after (made_of s) (answer_state s)

-- sixth: the processor's part that needs no slot. It takes the word of its access and goes on, or a clock passes of what it
-- waits for; an interrupt that begins is traced
abbrev pub run_processor : State → State
run_processor s = record s { chips = run_chips s.chips; trace = s.trace ++ taken_lines s.beam (interrupt_of s.chips) }

-- seventh: the beam advances
abbrev pub advance_beam : System → State → State
advance_beam system s = record s { t = s.t + 1; beam = next_place system (is_interlaced s.chips.registers) s.beam }

-- the state in which the access of this clock is made
abbrev pub before_access : System → List At → State → State
before_access system events s = show_pixels system (count_timers (run_script events (start_clock s)))

-- the state after one colour clock
unfoldable pub tick : System → List At → State → State
tick system events s = advance_beam system (run_processor (make_access (before_access system events s)))
