-- A CIA: its registers by number, its reset, its two clocks, its reads and its writes.
use Rattle.std.specs.Prelude.{ℕ, ◌/◌, ◌%◌, Bool, true, List, [], ◌∷◌, get_or}
use Rattle.irq_cia.specs.declared.cia.CiaState.{CiaState}
use Rattle.irq_cia.specs.declared.cia.Register.{Register}
use Rattle.irq_cia.specs.declared.cia.Register.TheVariants.{PortA, PortB, DirectionA, DirectionB, TimerALow, TimerAHigh, TimerBLow, TimerBHigh}
use Rattle.irq_cia.specs.declared.cia.Register.TheVariants.{TodLow, TodMiddle, TodHigh, Unused, Serial, InterruptControl, ControlA, ControlB}
use Rattle.irq_cia.specs.Icr.{reset_icr, with_flag, icr_read, after_icr_read, after_icr_write}
use Rattle.irq_cia.specs.Interrupts.{is_set}
use Rattle.irq_cia.specs.Port.{reset_port, port_read}
use Rattle.irq_cia.specs.Timer.{reset_timer, counts_as_a, counts_as_b, is_underflow, after_count, after_low_write, after_high_write, after_control_write}
use Rattle.irq_cia.specs.Tod.{reset_tod, after_tod_count, meets_alarm, low_of, middle_of, high_of, time_seen, after_low_read, after_high_read}
use Rattle.irq_cia.specs.Tod.{after_low_set, after_middle_set, after_high_set}

-- the registers from 0 on
abbrev pub registers : List Register
registers =
    PortA
    ∷ PortB
    ∷ DirectionA
    ∷ DirectionB
    ∷ TimerALow
    ∷ TimerAHigh
    ∷ TimerBLow
    ∷ TimerBHigh
    ∷ TodLow
    ∷ TodMiddle
    ∷ TodHigh
    ∷ Unused
    ∷ Serial
    ∷ InterruptControl
    ∷ ControlA
    ∷ ControlB
    ∷ []

abbrev pub register_at : ℕ → Register
register_at number = get_or registers number Unused

unfoldable pub reset_cia : CiaState
reset_cia = record {
  port_a = reset_port;
  port_b = reset_port;
  timer_a = reset_timer;
  timer_b = reset_timer;
  tod = reset_tod;
  serial = 0;
  icr = reset_icr;
}

-- timer A underflows at this tick, and timer B, which may count that underflow
abbrev pub a_underflow : CiaState → Bool
a_underflow s = is_underflow (counts_as_a s.timer_a) s.timer_a

abbrev pub b_counts : CiaState → Bool
b_counts s = counts_as_b (a_underflow s) s.timer_b

abbrev pub b_underflow : CiaState → Bool
b_underflow s = is_underflow (b_counts s) s.timer_b

-- a tick of both timers, A before B; an underflow sets ICR bit 0 for A and bit 1 for B
unfoldable pub after_tick : CiaState → CiaState
after_tick s = record s {
  timer_a = after_count (counts_as_a s.timer_a) s.timer_a;
  timer_b = after_count (b_counts s) s.timer_b;
  icr = with_flag (b_underflow s) 1 (with_flag (a_underflow s) 0 s.icr);
}

-- a count of the time of day, which sets ICR bit 2 where it meets the alarm
unfoldable pub after_tod_pulse : CiaState → CiaState
after_tod_pulse s = record s {
  tod = after_tod_count s.tod;
  icr = with_flag (meets_alarm s.tod) 2 s.icr;
}

-- a code of the keyboard sets ICR bit 3
unfoldable pub after_key : ℕ → CiaState → CiaState
after_key code s = record s {
  serial = code;
  icr = with_flag true 3 s.icr;
}

-- what a read gives; the pins are those of the port that is read
abbrev pub byte_in : Register → ℕ → CiaState → ℕ
byte_in PortA pins s = port_read pins s.port_a
byte_in PortB pins s = port_read pins s.port_b
byte_in DirectionA pins s = s.port_a.direction
byte_in DirectionB pins s = s.port_b.direction
byte_in TimerALow pins s = s.timer_a.counter % 256
byte_in TimerAHigh pins s = s.timer_a.counter / 256
byte_in TimerBLow pins s = s.timer_b.counter % 256
byte_in TimerBHigh pins s = s.timer_b.counter / 256
byte_in TodLow pins s = low_of (time_seen s.tod)
byte_in TodMiddle pins s = middle_of (time_seen s.tod)
byte_in TodHigh pins s = high_of (time_seen s.tod)
byte_in Unused pins s = 0
byte_in Serial pins s = s.serial
byte_in InterruptControl pins s = icr_read s.icr
byte_in ControlA pins s = s.timer_a.control
byte_in ControlB pins s = s.timer_b.control

unfoldable pub byte_at : ℕ → ℕ → CiaState → ℕ
byte_at number pins s = byte_in (register_at number) pins s

-- what a read changes: TODHI holds the time, TODLO lets it go, and ICR is cleared
abbrev pub state_after_read : Register → CiaState → CiaState
state_after_read TodLow s = record s { tod = after_low_read s.tod }
state_after_read TodHigh s = record s { tod = after_high_read s.tod }
state_after_read InterruptControl s = record s { icr = after_icr_read s.icr }
state_after_read _ s = s

unfoldable pub after_read : ℕ → CiaState → CiaState
after_read number s = state_after_read (register_at number) s

-- CRB bit 7 makes writes to the time of day set the alarm
abbrev pub sets_alarm : CiaState → Bool
sets_alarm s = is_set s.timer_b.control 7

-- what a write changes
abbrev pub state_after_write : Register → ℕ → CiaState → CiaState
state_after_write PortA byte s = record s { port_a = record s.port_a { output = byte } }
state_after_write PortB byte s = record s { port_b = record s.port_b { output = byte } }
state_after_write DirectionA byte s = record s { port_a = record s.port_a { direction = byte } }
state_after_write DirectionB byte s = record s { port_b = record s.port_b { direction = byte } }
state_after_write TimerALow byte s = record s { timer_a = after_low_write byte s.timer_a }
state_after_write TimerAHigh byte s = record s { timer_a = after_high_write byte s.timer_a }
state_after_write TimerBLow byte s = record s { timer_b = after_low_write byte s.timer_b }
state_after_write TimerBHigh byte s = record s { timer_b = after_high_write byte s.timer_b }
state_after_write TodLow byte s = record s { tod = after_low_set (sets_alarm s) byte s.tod }
state_after_write TodMiddle byte s = record s { tod = after_middle_set (sets_alarm s) byte s.tod }
state_after_write TodHigh byte s = record s { tod = after_high_set (sets_alarm s) byte s.tod }
state_after_write Unused byte s = s
state_after_write Serial byte s = record s { serial = byte }
state_after_write InterruptControl byte s = record s { icr = after_icr_write byte s.icr }
state_after_write ControlA byte s = record s { timer_a = after_control_write byte s.timer_a }
state_after_write ControlB byte s = record s { timer_b = after_control_write byte s.timer_b }

unfoldable pub after_write : ℕ → ℕ → CiaState → CiaState
after_write number byte s = state_after_write (register_at number) byte s
