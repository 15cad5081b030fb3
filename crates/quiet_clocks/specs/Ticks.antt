-- Ticks of a CIA's timers one behind the other, among which neither timer underflows.
use Rattle.std.specs.Prelude.{◌≡◌, ◌≤◌, ℕ, zero, suc, ◌+◌, ◌-◌, ◌/◌, ◌%◌, true, false, ◌==◌}
use Rattle.irq_cia.specs.Cia.{after_tick}
use Rattle.irq_cia.specs.Ticks.{HasNoUnderflow, ticks_on}
use Rattle.irq_cia.specs.declared.cia.CiaState.{CiaState}

-- the CIA after so many ticks
unfoldable pub after_ticks : ℕ → CiaState → CiaState
after_ticks zero s = s
after_ticks (suc n) s = after_tick (after_ticks n s)

-- the number of ticks among n clocks from clock t since reset on: the timers tick at each fifth
abbrev pub ticks_in : ℕ → ℕ → ℕ
ticks_in t n = (t + n + 4) / 5 - (t + 4) / 5

-- ticks without an underflow lower the counters by their number
abbrev pub TicksInClosedForm : Type 0
TicksInClosedForm = (n : ℕ) (s : CiaState) → HasNoUnderflow n s → after_ticks n s ≡ ticks_on n s

-- ticks and further ticks are as many ticks as both together
abbrev pub TicksTwice : Type 0
TicksTwice = (m n : ℕ) (s : CiaState) → ticks_on n (ticks_on m s) ≡ ticks_on (m + n) s

-- fewer ticks have no underflow either
abbrev pub FewerTicks : Type 0
FewerTicks = (m n : ℕ) (s : CiaState) → m ≤ n → HasNoUnderflow n s → HasNoUnderflow m s

-- the ticks among clocks and further clocks
abbrev pub TicksOfTwo : Type 0
TicksOfTwo = (t m n : ℕ) → ticks_in t m + ticks_in (t + m) n ≡ ticks_in t (m + n)

-- one clock more has one tick more where it is a fifth one, and else none
abbrev pub TickMore : Type 0
TickMore = (t n : ℕ) → ((t + n) % 5 == 0) ≡ true → ticks_in t (suc n) ≡ suc (ticks_in t n)

abbrev pub TickLess : Type 0
TickLess = (t n : ℕ) → ((t + n) % 5 == 0) ≡ false → ticks_in t (suc n) ≡ ticks_in t n
