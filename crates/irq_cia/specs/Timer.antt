-- A timer of a CIA: when it counts, what a count does, and the writes to its registers.
use Rattle.std.specs.Prelude.{ℕ, ◌+◌, ◌-◌, ◌*◌, ◌/◌, ◌%◌, Bool, not, ◌&&◌, ◌==◌, if◌then◌else◌, bit_and, bit_or}
use Rattle.irq_cia.specs.Interrupts.{is_set}
use Rattle.irq_cia.specs.declared.timer.Timer.{Timer}

abbrev pub reset_timer : Timer
reset_timer = record {
  latch = 0xffff;
  counter = 0xffff;
  control = 0;
}

-- START, bit 0 of CRA and CRB
abbrev pub has_start : Timer → Bool
has_start t = is_set t.control 0

-- one-shot, bit 3 of CRA and CRB
abbrev pub has_one_shot : Timer → Bool
has_one_shot t = is_set t.control 3

-- timer A counts ticks while START is set; with CRA bit 5 it would count CNT, and so stands still
abbrev pub counts_as_a : Timer → Bool
counts_as_a t = has_start t && not (is_set t.control 5)

-- timer B counts, while START is set, by CRB bits 6 and 5: 00 ticks, 01 nothing, 10 and 11 underflows of timer A
abbrev pub counts_as_b : Bool → Timer → Bool
counts_as_b a_underflow t = has_start t && (if is_set t.control 6 then a_underflow else not (is_set t.control 5))

-- a timer that counts underflows at 0
abbrev pub is_underflow : Bool → Timer → Bool
is_underflow counts t = counts && (t.counter == 0)

abbrev pub with_load : Timer → Timer
with_load t = record t { counter = t.latch }

abbrev pub with_start : Timer → Timer
with_start t = record t { control = bit_or t.control 1 }

abbrev pub without_start : Timer → Timer
without_start t = record t { control = bit_and t.control 254 }

-- an underflow makes the counter the latch and clears START in one-shot; any other count takes one from the counter
abbrev pub after_underflow : Timer → Timer
after_underflow t = if has_one_shot t then without_start (with_load t) else with_load t

abbrev pub after_count : Bool → Timer → Timer
after_count counts t =
    if is_underflow counts t then after_underflow t
    else (if counts then record t { counter = t.counter - 1 } else t)

abbrev pub after_low_write : ℕ → Timer → Timer
after_low_write byte t = record t { latch = 256 * (t.latch / 256) + byte }

-- a high byte loads the counter and sets START in one-shot, and else it loads a timer that is not started
abbrev pub after_high_latch : Timer → Timer
after_high_latch t = if has_one_shot t then with_start (with_load t) else (if has_start t then t else with_load t)

abbrev pub after_high_write : ℕ → Timer → Timer
after_high_write byte t = after_high_latch (record t { latch = 256 * byte + t.latch % 256 })

-- the control register keeps all bits but the load strobe, bit 4, which makes the counter the latch
abbrev pub with_control : ℕ → Timer → Timer
with_control byte t = record t { control = bit_and byte 239 }

abbrev pub after_control_write : ℕ → Timer → Timer
after_control_write byte t = with_control byte (if is_set byte 4 then with_load t else t)
