-- Clocks at which the processor only waits.
use Rattle.std.specs.Prelude.{◌≡◌, ◌<◌, ◌+◌, ◌^◌, ℕ, suc, Bool, true, false, ◌&&◌, nat_lt, if◌then◌else◌}
use Rattle.irq_cia.specs.Interrupts.{Interrupts}
use Rattle.quiet_clocks.specs.QuietTurns.{RestsTo, spent_on}
use Rattle.serial_model.specs.Processor.{Processor}
use Rattle.serial_model.specs.declared.processor.Wait.{Wait}
use Rattle.serial_model.specs.declared.processor.Wait.TheVariants as W
use Rattle.cpu_bus.specs.Bus.{IsProcessorOf}
use Rattle.cpu_bus.specs.declared.BusCpu.{BusCpu}

-- what takes its clocks and needs no slot; an idle clock alone is that of STOP
abbrev pub is_timed : Wait → Bool
is_timed (W.Slot ask) = false
is_timed (W.Cia cia reg byte) = true
is_timed W.Unmapped = true
is_timed (W.Idle clocks) = nat_lt 1 clocks
is_timed W.Halted = false

-- it waits for that
abbrev pub is_passing : BusCpu → Bool
is_passing now = now.on && is_timed now.wait

-- the processor k quiet clocks on: so many more have passed of what it waits for, or it stays as it is
abbrev pub waited : BusCpu → ℕ → Processor → Processor
waited now k p = if is_passing now then spent_on k p else p

-- while the interrupts are these it only waits for n clocks
abbrev pub RestsFor : Interrupts → ℕ → BusCpu → Type 0
RestsFor irq n now = (p : Processor) → IsProcessorOf now p → (k : ℕ) → k < n → RestsTo irq (waited now k p) (waited now (suc k) p)

-- so many more clocks of what it waits for can be counted
abbrev pub CanCount : ℕ → BusCpu → Type 0
CanCount n now = is_passing now ≡ true → 0 < n → now.spent + n < 2 ^ 32

-- none of them is none
abbrev pub WaitedNone : Type 0
WaitedNone = (now : BusCpu) (p : Processor) → waited now 0 p ≡ p
