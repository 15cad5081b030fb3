-- The processor's turns at clocks at which it makes no access.
use Rattle.std.specs.Prelude.{◌≡◌, ◌<◌, ◌≤◌, ℕ, suc, ◌+◌, true, false, [], Option, Some, None}
use Rattle.irq_cia.specs.Interrupts.{Interrupts, level_of}
use Rattle.m68k_decode.specs.declared.regs.CpuRegs.{CpuRegs}
use Rattle.m68k_decode.specs.declared.under.Under.TheVariants as U
use Rattle.m68k_decode.specs.Status.{mask_of}
use Rattle.ocs_base.specs.declared.chip_size.ChipSize.{ChipSize}
use Rattle.serial_model.specs.declared.bus.ProcessorAsk.{ProcessorAsk}
use Rattle.serial_model.specs.declared.processor.Wait.{Wait}
use Rattle.serial_model.specs.declared.processor.Wait.TheVariants as W
use Rattle.serial_model.specs.Processor.{Processor, processor_wait, processor_wish}
use Rattle.quiet_clocks.specs.QuietClock.{TurnsTo}

-- the processor with so many more clocks passed of what it waits for
abbrev pub spent_on : ℕ → Processor → Processor
spent_on k p = record p { spent = p.spent + k }

-- how many clocks it waits for what needs no slot
abbrev pub clocks_of : Wait → Option ℕ
clocks_of (W.Slot ask) = None
clocks_of (W.Cia cia reg byte) = Some 5
clocks_of W.Unmapped = Some 2
clocks_of (W.Idle clocks) = Some clocks
clocks_of W.Halted = None

-- a processor whose turn makes this of it, and which asks for no slot
abbrev pub RestsTo : Interrupts → Processor → Processor → Type 0
RestsTo irq p after = TurnsTo irq p after × (processor_wish p ≡ None)

-- of so many clocks that it waits, all but the last only pass
abbrev pub WaitsThrough : Type 0
WaitsThrough = (irq : Interrupts) (p : Processor) (all k : ℕ) → p.on ≡ true → p.given ≡ None → clocks_of (processor_wait p) ≡ Some all →
    p.spent + suc k < all → RestsTo irq (spent_on k p) (spent_on (suc k) p)

-- one that the script does not start stays as it is
abbrev pub StaysOff : Type 0
StaysOff = (irq : Interrupts) (p : Processor) → p.on ≡ false → RestsTo irq p p

-- so does one that has halted
abbrev pub StaysHalted : Type 0
StaysHalted = (irq : Interrupts) (p : Processor) → p.given ≡ None → processor_wait p ≡ W.Halted → RestsTo irq p p

-- one that STOP has stopped
abbrev pub stopped : ChipSize → CpuRegs → Processor
stopped chip regs = record {
  chip = chip;
  on = true;
  regs = regs;
  under = U.Stopped;
  answers = [];
  spent = 0;
  given = None;
}

-- and it stays as it is while the interrupt level is not above its mask
abbrev pub StaysStopped : Type 0
StaysStopped = (irq : Interrupts) (chip : ChipSize) (regs : CpuRegs) → level_of irq ≤ mask_of regs.sr →
    RestsTo irq (stopped chip regs) (stopped chip regs)

-- one that waits for a slot and does not get it: its first clock is over. It asks from the second on
abbrev pub LosesSlot : Type 0
LosesSlot = (irq : Interrupts) (p : Processor) (ask : ProcessorAsk) → p.on ≡ true → p.given ≡ None → processor_wait p ≡ W.Slot ask →
    TurnsTo irq p (record p { spent = 1 })
