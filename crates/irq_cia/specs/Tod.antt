-- The time of day of a CIA: a count of 24 bits, its alarm, and the three bytes of each.
use Rattle.std.specs.Prelude.{ℕ, ◌+◌, ◌*◌, ◌/◌, ◌%◌, ◌^◌, Bool, true, false, ◌&&◌, ◌==◌, if◌then◌else◌, Some, None, unwrap_or}
use Rattle.irq_cia.specs.declared.tod.Tod.{Tod}

abbrev pub reset_tod : Tod
reset_tod = record {
  time = 0;
  alarm = 0;
  counting = true;
  held = None;
}

-- the time after one count: 24 bits, which wrap
abbrev pub next_time : ℕ → ℕ
next_time time = (time + 1) % 2 ^ 24

abbrev pub after_tod_count : Tod → Tod
after_tod_count t = if t.counting then record t { time = next_time t.time } else t

-- a count that makes the time the alarm
abbrev pub meets_alarm : Tod → Bool
meets_alarm t = t.counting && (next_time t.time == t.alarm)

-- the bytes of a time
abbrev pub low_of : ℕ → ℕ
low_of time = time % 256

abbrev pub middle_of : ℕ → ℕ
middle_of time = time / 256 % 256

abbrev pub high_of : ℕ → ℕ
high_of time = time / 65536 % 256

abbrev pub with_low : ℕ → ℕ → ℕ
with_low byte time = 256 * (time / 256) + byte

abbrev pub with_middle : ℕ → ℕ → ℕ
with_middle byte time = 65536 * (time / 65536) + 256 * byte + time % 256

abbrev pub with_high : ℕ → ℕ → ℕ
with_high byte time = 65536 * byte + time % 65536

-- the time that reads see: the held one, where TODHI was read and TODLO was not read since
abbrev pub time_seen : Tod → ℕ
time_seen t = unwrap_or t.held t.time

abbrev pub after_high_read : Tod → Tod
after_high_read t = record t { held = Some (time_seen t) }

abbrev pub after_low_read : Tod → Tod
after_low_read t = record t { held = None }

-- a write sets a byte of the alarm, or of the time: there a high byte stops the count and a low one starts it
abbrev pub after_low_set : Bool → ℕ → Tod → Tod
after_low_set to_alarm byte t =
    if to_alarm then record t { alarm = with_low byte t.alarm }
    else record t { time = with_low byte t.time; counting = true }

abbrev pub after_middle_set : Bool → ℕ → Tod → Tod
after_middle_set to_alarm byte t =
    if to_alarm then record t { alarm = with_middle byte t.alarm } else record t { time = with_middle byte t.time }

abbrev pub after_high_set : Bool → ℕ → Tod → Tod
after_high_set to_alarm byte t =
    if to_alarm then record t { alarm = with_high byte t.alarm }
    else record t { time = with_high byte t.time; counting = false }
