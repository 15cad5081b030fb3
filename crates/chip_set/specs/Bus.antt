-- Clocks that refresh, sprites and the Copper leave to the planes, the blitter and the processor.
use Rattle.std.specs.Prelude.{◌≡◌, ◌⊎◌, ◌≤◌, ◌<◌, ℕ, ◌+◌, ◌%◌, ◌==◌, Bool, true, false, not, Option, Some, None, is_some}
use Rattle.bitplane_dma.specs.Quiet.{IsUnitAt}
use Rattle.bitplane_dma.specs.Rules.{rules_of}
use Rattle.bitplane_dma.specs.declared.rules.FetchRules.{FetchRules}
use Rattle.irq_cia.specs.Cia.{after_tick}
use Rattle.ocs_base.specs.declared.beam.Beam.{Beam}
use Rattle.quiet_clocks.specs.PlainClock.{AsksNothingNew}
use Rattle.serial_model.specs.Beam.{later_beam}
use Rattle.serial_model.specs.Owner.{is_refresh}
use Rattle.serial_model.specs.PlaneFetch.{begins_unit, is_running, IsLastUnit}
use Rattle.serial_model.specs.declared.bus.Ask.{Ask}
use Rattle.serial_model.specs.declared.bus.Ask.TheVariants as A
use Rattle.serial_model.specs.declared.bus.Made.{Made}
use Rattle.serial_model.specs.declared.bus.Made.TheVariants as M
use Rattle.serial_model.specs.declared.fetch.PlaneAsk.{PlaneAsk}
use Rattle.serial_model.specs.declared.bus.ProcessorAsk.{ProcessorAsk}
use Rattle.serial_model.specs.declared.bus.ProcessorAsk.TheVariants as P
use Rattle.serial_model.specs.Registers.{dmacon_of, blitter_first}
use Rattle.sprite_dma.specs.Quiet.{ReadsNothing}
use Rattle.chip_set.specs.declared.bus.BlitterClaim.{BlitterClaim}
use Rattle.chip_set.specs.declared.bus.Unit.{Unit}
use Rattle.chip_set.specs.Chips.{WorkingChips, late_ask, kept_wish, plain_chips}
use Rattle.chip_set.specs.Quiet.{IsCopperIdle}

-- what the working chips tell of a clock, with the beam there, by which none of refresh, sprites and the Copper needs its slot
pub record LeavesToPlanes (b : Beam) (now : WorkingChips) : Type 0 where
  pub inner : 0 < b.h
  pub refresh : is_refresh b.h ≡ false
  pub unit : IsLastUnit now.last
  pub sprites : ReadsNothing b now.registers now.kinds
  pub copper : IsCopperIdle b now

-- and by which the planes need it no more than those
pub record LeavesBus (b : Beam) (now : WorkingChips) : Type 0 where
  pub others : LeavesToPlanes b now
  pub begins : begins_unit b now.registers now.last ≡ false
  pub runs : is_running b.h now.last ≡ false

-- the planes have their slots by these rules, or, without rules, they need none
abbrev pub LeavesBeside : Option FetchRules → Beam → WorkingChips → Type 0
LeavesBeside None b now = LeavesBus b now
LeavesBeside (Some rules) b now = LeavesToPlanes b now × (rules ≡ rules_of b.v now.registers)

-- and of n clocks from there on
abbrev pub LeaveBus : Option FetchRules → Beam → ℕ → WorkingChips → Type 0
LeaveBus rules b n now = (k : ℕ) → k < n → LeavesBeside rules (later_beam k b) now

-- all that tells so stays
pub record KeepsBus (old new : WorkingChips) : Type 0 where
  pub registers : new.registers ≡ old.registers
  pub last : new.last ≡ old.last
  pub kinds : new.kinds ≡ old.kinds
  pub copper : new.copper ≡ old.copper
  pub busy : is_some new.blit ≡ is_some old.blit

-- or all but the planes' own part of it
pub record KeepsToPlanes (old new : WorkingChips) : Type 0 where
  pub leaves : (b : Beam) → LeavesToPlanes b old → LeavesToPlanes b new
  pub rules : (v : ℕ) → rules_of v new.registers ≡ rules_of v old.registers
  pub dma : dmacon_of new.registers ≡ dmacon_of old.registers
  pub busy : is_some new.blit ≡ is_some old.blit

abbrev pub KeepsBeside : Option FetchRules → WorkingChips → WorkingChips → Type 0
KeepsBeside None old new = KeepsBus old new
KeepsBeside (Some rules) old new = KeepsToPlanes old new

-- the CIAs and what is requested stay
pub record KeepsCias (old new : WorkingChips) : Type 0 where
  pub irq : new.irq ≡ old.irq
  pub cia_a : new.cia_a ≡ old.cia_a
  pub cia_b : new.cia_b ≡ old.cia_b

-- all of it stays
abbrev pub KeepsOnBus : WorkingChips → WorkingChips → Type 0
KeepsOnBus old new = KeepsBus old new × KeepsCias old new

-- a tick of the timers leaves both CIAs as they are
abbrev pub TimersStand : WorkingChips → Type 0
TimersStand now = (after_tick now.cia_a ≡ now.cia_a) × (after_tick now.cia_b ≡ now.cia_b)

-- in n clocks from clock t on no tick of the timers changes the CIAs, and they request no interrupt that is not requested yet
abbrev pub CiasRest : ℕ → ℕ → WorkingChips → Type 0
CiasRest t n now = (k : ℕ) → k < n → ((((t + k) % 5 == 0) ≡ false) ⊎ TimersStand now) × AsksNothingNew 0 (plain_chips now)

-- whether the blitter asks, and whether it gives way to a processor that has missed three clocks
pub record IsClaim (claim : BlitterClaim) (now : WorkingChips) : Type 0 where
  pub asks : claim.asks ≡ is_some (kept_wish now)
  pub yields : claim.yields ≡ not (blitter_first now.registers)

-- at each clock from clock h on that the kept unit has, it is the line's last unit and runs
abbrev pub IsUnitKept : Unit → ℕ → Option ℕ → Type 0
IsUnitKept unit h last = (k : ℕ) → h ≤ k → k < unit.until → IsUnitAt unit.start k last

-- the ask of such a clock, where this plane has its slot, or none
abbrev pub ask_beside_planes : Option PlaneAsk → Beam → WorkingChips → Ask
ask_beside_planes None b now = late_ask b now
ask_beside_planes (Some ask) b now = A.Plane ask

-- a plane asks, or the blitter, or the processor for memory, or nobody
abbrev pub reaches_memory : ProcessorAsk → Bool
reaches_memory (P.Read at) = true
reaches_memory (P.Write at half word) = true
reaches_memory (P.ReadRegister reg) = false
reaches_memory (P.WriteRegister reg word) = false

abbrev pub is_bus_ask : Ask → Bool
is_bus_ask A.Free = true
is_bus_ask (A.Side ask) = false
is_bus_ask (A.Plane ask) = true
is_bus_ask (A.Sprite ask) = false
is_bus_ask (A.Copper at) = false
is_bus_ask (A.Blit ask) = true
is_bus_ask (A.Processor ask) = reaches_memory ask

-- which makes no more than that a word is stored or fills a plane's latch
abbrev pub is_bus_made : Made → Bool
is_bus_made M.Nothing = true
is_bus_made (M.Wrote reg word by) = false
is_bus_made (M.Read reg by) = false
is_bus_made (M.Stored at half word) = true
is_bus_made (M.Plane plane at) = true
is_bus_made (M.Sprite sprite second at) = false

-- a plane asks, or a sprite, or the Copper, or nobody
abbrev pub is_fetch_ask : Ask → Bool
is_fetch_ask A.Free = true
is_fetch_ask (A.Side ask) = false
is_fetch_ask (A.Plane ask) = true
is_fetch_ask (A.Sprite ask) = true
is_fetch_ask (A.Copper at) = true
is_fetch_ask (A.Blit ask) = false
is_fetch_ask (A.Processor ask) = false
