-- What tells that nobody of the chips asks for the slot, in clocks of sprites too, and at clocks one behind the other.
use Rattle.std.specs.Prelude.{◌≡◌, ◌⊎◌, ◌<◌, ℕ, ◌+◌, ◌%◌, Bool, false, List, Option, None}
use Rattle.ocs_base.specs.declared.beam.Beam.{Beam}
use Rattle.serial_model.specs.Bus.{kinds_now, units_now}
use Rattle.serial_model.specs.PlaneFetch.{fetched_plane, last_unit, begins_unit, IsLastUnit}
use Rattle.serial_model.specs.Processor.{processor_wish}
use Rattle.serial_model.specs.Registers.{Registers, blitter_dma}
use Rattle.serial_model.specs.SpriteFetch.{sprite_ask}
use Rattle.serial_model.specs.State.{Chips}
use Rattle.quiet_clocks.specs.Plan.{unit_on}
use Rattle.quiet_clocks.specs.Ticks.{ticks_in}
use Rattle.quiet_clocks.specs.QuietClock.{IsCalm, CopperIsStill}
use Rattle.quiet_clocks.specs.QuietClocks.{later_units}
use Rattle.serial_model.specs.Beam.{later_beam}

-- what sprites read stays and no sprite asks, no plane is fetched, the Copper is still, the blitter is without DMA or blit, and
-- the processor asks for nothing
pub record IsIdle (b : Beam) (c : Chips) : Type 0 where
  pub kinds : kinds_now b c ≡ c.kinds
  pub sprite : (taken : Bool) → sprite_ask b.h c.registers c.kinds taken ≡ None
  pub plane : fetched_plane b.h c.registers (last_unit (units_now b c)) ≡ None
  pub copper : CopperIsStill b c
  pub blit : (blitter_dma c.registers ≡ false) ⊎ (c.blit ≡ None)
  pub wish : processor_wish c.processor ≡ None

abbrev pub IdleIsCalm : Type 0
IdleIsCalm = (b : Beam) (c : Chips) → IsIdle b c → IsCalm b c

-- the last unit of a later clock is known from the last one alone
abbrev pub LastLater : Type 0
LastLater = (k : ℕ) (b : Beam) (registers : Registers) (units : List ℕ) →
    last_unit (later_units k b registers units) ≡ unit_on k b registers (last_unit units)

-- behind a line's first clock it stays where none begins
abbrev pub UnitStays : Type 0
UnitStays = (n : ℕ) (b : Beam) (registers : Registers) (last : Option ℕ) → 0 < b.h →
    ((k : ℕ) → k < n → begins_unit (later_beam k b) registers last ≡ false) → unit_on n b registers last ≡ last

-- clocks and further clocks
abbrev pub UnitOfTwo : Type 0
UnitOfTwo = (m n : ℕ) (b : Beam) (registers : Registers) (last : Option ℕ) →
    unit_on n (later_beam m b) registers (unit_on m b registers last) ≡ unit_on (m + n) b registers last

-- it began at a clock at which one can
abbrev pub UnitCanBegin : Type 0
UnitCanBegin = (n : ℕ) (b : Beam) (registers : Registers) (last : Option ℕ) → IsLastUnit last → IsLastUnit (unit_on n b registers last)

-- ticks are counted from the clock's place among five
abbrev pub TicksByPlace : Type 0
TicksByPlace = (t n : ℕ) → ticks_in (t % 5) n ≡ ticks_in t n
