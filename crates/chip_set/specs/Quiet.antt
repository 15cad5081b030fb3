-- Clocks at which no chip does anything but wait.
use Rattle.std.specs.Prelude.{◌≡◌, ◌⊎◌, ◌<◌, ℕ, false, None, is_some}
use Rattle.bitplane_dma.specs.Quiet.{FetchesNothing}
use Rattle.copper.specs.Quiet.{DoesNothing}
use Rattle.cpu_bus.specs.Bus.{IsProcessorOf}
use Rattle.cpu_bus.specs.Quiet.{RestsFor, CanCount, waited}
use Rattle.irq_cia.specs.Ticks.{HasNoUnderflow, ticks_on}
use Rattle.ocs_base.specs.declared.beam.Beam.{Beam}
use Rattle.serial_model.specs.PlaneFetch.{IsLastUnit}
use Rattle.serial_model.specs.Processor.{Processor}
use Rattle.serial_model.specs.Registers.{blitter_dma, copper_dma}
use Rattle.serial_model.specs.State.{Chips}
use Rattle.sprite_dma.specs.Quiet.{ReadsNothing}
use Rattle.quiet_clocks.specs.Plan.{unit_on}
use Rattle.quiet_clocks.specs.PlainClock.{AsksNothingNew}
use Rattle.quiet_clocks.specs.QuietClocks.{AreQuiet, later_chips}
use Rattle.serial_model.specs.Beam.{later_beam}
use Rattle.quiet_clocks.specs.FetchClocks.{Fetching, fetching_on, fetched_later, AreResting}
use Rattle.quiet_clocks.specs.Ticks.{ticks_in}
use Rattle.chip_set.specs.Chips.{WorkingChips, IsChipsOf, plain_chips}

-- n clocks from clock t on, with the beam there, are quiet, and the working chips stand for those behind them
pub record PassesQuiet (b : Beam) (t n : ℕ) (c : Chips) (new : WorkingChips) : Type 0 where
  pub processors : ℕ → Processor
  pub quiet : AreQuiet b t n processors c
  pub stands : IsChipsOf new (later_chips b t n processors c)

-- the Copper is without DMA, or does nothing with it
abbrev pub IsCopperIdle : Beam → WorkingChips → Type 0
IsCopperIdle b now = (copper_dma now.registers ≡ false) ⊎ DoesNothing b (is_some now.blit) now.copper

-- what the working chips tell of n clocks from clock t on, with the beam there, by which nobody but the planes needs a slot in
-- these: each only waits, the CIAs request nothing new, and no timer underflows
pub record AreAtRest (b : Beam) (t n : ℕ) (now : WorkingChips) : Type 0 where
  pub sprites : (k : ℕ) → k < n → ReadsNothing (later_beam k b) now.registers now.kinds
  pub copper : (k : ℕ) → k < n → IsCopperIdle (later_beam k b) now
  pub blit : (blitter_dma now.registers ≡ false) ⊎ (now.blit ≡ None)
  pub processor : RestsFor now.irq n now.processor
  pub counts : CanCount n now.processor
  pub lines : AsksNothingNew 0 (plain_chips now)
  pub timers_a : HasNoUnderflow (ticks_in t n) now.cia_a
  pub timers_b : HasNoUnderflow (ticks_in t n) now.cia_b

-- and by which they are quiet: the planes need none either
pub record AreIdle (b : Beam) (t n : ℕ) (now : WorkingChips) : Type 0 where
  pub planes : (k : ℕ) → k < n → FetchesNothing k b now.registers now.last
  pub rest : AreAtRest b t n now

-- the working chips once everybody but the planes has waited for n clocks: the timers have counted
pub record HasRested (t n : ℕ) (old new : WorkingChips) : Type 0 where
  pub processor : (p : Processor) → IsProcessorOf old.processor p → IsProcessorOf new.processor (waited old.processor n p)
  pub rest : new ≡ record old {
    processor = new.processor;
    missed = 0;
    cia_a = ticks_on (ticks_in t n) old.cia_a;
    cia_b = ticks_on (ticks_in t n) old.cia_b;
  }

-- what plane fetches change of the working chips
abbrev pub fetching_in : WorkingChips → Fetching
fetching_in now = record { registers = now.registers; last = now.last }

abbrev pub with_fetching : Fetching → WorkingChips → WorkingChips
with_fetching f now = record now { registers = f.registers; last = f.last }

-- the working chips n clocks on, at each of which a plane was fetched at most, and everybody else has waited
abbrev pub HaveFetched : Beam → ℕ → ℕ → WorkingChips → WorkingChips → Type 0
HaveFetched b t n old new = HasRested t n (with_fetching (fetching_on n b (fetching_in old)) old) new

-- n clocks from clock t on, with the beam there, have a plane's fetch at most, and the working chips stand for those behind them
pub record PassesFetches (b : Beam) (t n : ℕ) (c : Chips) (new : WorkingChips) : Type 0 where
  pub processors : ℕ → Processor
  pub rest : AreResting b t n processors c
  pub stands : IsChipsOf new (fetched_later b t n processors c)

abbrev pub FetchesPass : Type 0
FetchesPass = (b : Beam) (t n : ℕ) (old new : WorkingChips) (c : Chips) → 0 < n → IsLastUnit old.last → AreAtRest b t n old →
    HaveFetched b t n old new → IsChipsOf old c → PassesFetches b t n c new

-- the working chips n such clocks on: units of bitplane fetch may have begun, the processor has waited, and the timers have counted
pub record AreLater (b : Beam) (t n : ℕ) (old new : WorkingChips) : Type 0 where
  pub processor : (p : Processor) → IsProcessorOf old.processor p → IsProcessorOf new.processor (waited old.processor n p)
  pub rest : new ≡ record old {
    last = unit_on n b old.registers old.last;
    processor = new.processor;
    missed = 0;
    cia_a = ticks_on (ticks_in t n) old.cia_a;
    cia_b = ticks_on (ticks_in t n) old.cia_b;
  }
