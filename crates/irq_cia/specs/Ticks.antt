-- Ticks of a CIA's timers one behind the other, among which neither timer underflows.
use Rattle.std.specs.Prelude.{◌≡◌, ℕ, ◌-◌, Bool, true, false, not, ◌&&◌, ◌||◌, nat_le, min, if◌then◌else◌}
use Rattle.irq_cia.specs.Timer.{counts_as_a, counts_as_b, has_start}
use Rattle.irq_cia.specs.declared.cia.CiaState.{CiaState}
use Rattle.irq_cia.specs.declared.timer.Timer.{Timer}

-- a timer that stands still, or whose counter is not below the number of ticks: it does not underflow among them
abbrev pub is_far : Bool → ℕ → Timer → Bool
is_far counts n t = not counts || nat_le n t.counter

-- how many ticks a timer counts, at each or at none, before it underflows; where it does not count, the greatest u16
abbrev pub counts_left : Bool → Timer → ℕ
counts_left counts t = if counts then t.counter else 0xffff

-- timer B counts ticks; where it counts underflows of timer A it stands still while there are none
abbrev pub counts_b : CiaState → Bool
counts_b s = counts_as_b false s.timer_b

-- neither timer is started
abbrev pub both_stand : CiaState → Bool
both_stand s = not (has_start s.timer_a) && not (has_start s.timer_b)

-- neither timer underflows among so many ticks
abbrev pub HasNoUnderflow : ℕ → CiaState → Type 0
HasNoUnderflow n s = (is_far (counts_as_a s.timer_a) n s.timer_a ≡ true) × (is_far (counts_b s) n s.timer_b ≡ true)

-- the ticks before the first timer underflows
abbrev pub ticks_before_underflow : CiaState → ℕ
ticks_before_underflow s = min (counts_left (counts_as_a s.timer_a) s.timer_a) (counts_left (counts_b s) s.timer_b)

-- a timer so many counts on, where it counts
abbrev pub lowered : ℕ → Bool → Timer → Timer
lowered n counts t = record t { counter = if counts then t.counter - n else t.counter }

-- a CIA with its timers so many ticks on
abbrev pub ticks_on : ℕ → CiaState → CiaState
ticks_on n s = record s {
  timer_a = lowered n (counts_as_a s.timer_a) s.timer_a;
  timer_b = lowered n (counts_b s) s.timer_b;
}
