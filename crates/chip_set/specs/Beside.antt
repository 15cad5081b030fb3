-- The processor's turn made at once with what becomes of the slot.
use Rattle.std.specs.Prelude.{◌≡◌, false, None}
use Rattle.serial_model.specs.declared.bus.Ask.{Ask}
use Rattle.serial_model.specs.Bus.{is_processor_ask, missed_after}
use Rattle.serial_model.specs.State.{Chips}
use Rattle.serial_model.specs.Turns.{run_chips, interrupt_of}
use Rattle.cpu_bus.specs.Bus.{wish_shown}
use Rattle.chip_set.specs.Chips.{WorkingChips, IsChipsOf}

-- the slot was given to who asks so: whether the processor has missed it once more is counted
abbrev pub missing : Ask → WorkingChips → WorkingChips
missing ask now = record now { missed = missed_after (wish_shown now.processor) ask now.missed }

-- whoever else has the slot, or nobody, the processor has taken its turn behind that: no interrupt begins with it
pub record WaitsBeside (old new : WorkingChips) : Type 0 where
  pub runs : (ask : Ask) → is_processor_ask ask ≡ false → (c : Chips) → IsChipsOf (missing ask old) c → IsChipsOf new (run_chips c)
  pub silent : (ask : Ask) → is_processor_ask ask ≡ false → (c : Chips) → IsChipsOf (missing ask old) c → None ≡ interrupt_of c
  pub kept : new ≡ record old { missed = new.missed; processor = new.processor }
