-- Clocks on the bus one behind the other.
use Rattle.std.specs.Prelude.{◌≡◌, ◌≤◌, ◌<◌, ◌+◌, ◌-◌, ℕ, max, Bool, true, false, [], Option, None, Result, IfOk, OnErr}
use Rattle.band_log.specs.Raster.{RasterValue}
use Rattle.out_files.specs.OutFiles.{OutFilesValue}
use Rattle.serial_model.specs.declared.bus.Ask.{Ask}
use Rattle.serial_model.specs.declared.bus.Made.{Made}
use Rattle.serial_model.specs.Made.{touch_of}
use Rattle.serial_model.specs.Side.{no_side}
use Rattle.bitplane_dma.specs.declared.rules.FetchRules.{FetchRules}
use Rattle.chip_set.specs.Bus.{LeaveBus, LeavesBeside, IsClaim, KeepsBeside, KeepsBus, KeepsCias, KeepsOnBus, CiasRest}
use Rattle.chip_set.specs.declared.bus.BlitterClaim.{BlitterClaim}
use Rattle.chip_set.specs.Chips.{CanAsk, CanDo, IsBlitAsk, kept_wish, late_ask}
use Rattle.machine.specs.Ahead.{IsAccessAtOnce, IsMadeAtOnce}
use Rattle.machine.specs.Machine.{MachineValue, Makes, MakesQuietly, IsSamePlace, reads_more}
use Rattle.machine.specs.MachineSteps.{AsksInTime}
use Rattle.serial_model.specs.Beam.{later_beam, next_place}
use Rattle.serial_model.specs.Registers.{is_interlaced}
use Rattle.serial_model.specs.Tick.{run_processor, advance_beam}
use Rattle.ocs_base.specs.declared.system.System.{System}
use Rattle.serial_model.specs.Bus.{reads_of_ask}
use Rattle.serial_bands.specs.BusReads.{bus_reads}
use Rattle.serial_bands.specs.Shadows.{IsInRange}
use Rattle.picture_log.specs.Log.{with_access_touch, waiting_write}
use Rattle.serial_model.specs.Events.{due_events}
use Rattle.foreground.specs.Clock.{Rises}
use Rattle.foreground.specs.Fore.{ForeValue, IsUnderway, Advances, GivesPart, is_done, looked_up}
use Rattle.foreground.specs.Steps.{MakesAskedAccess, AccessesPart, KeepsClock}
use Rattle.clock_loop.specs.declared.clock.Access.{Access}
use Rattle.clock_loop.specs.declared.clock.Access.TheVariants as X
use Rattle.clock_loop.specs.code.Line.{AreInLine}
use Rattle.clock_loop.specs.RunTo.{RunsOn, RisesIn, RisesInSome}

-- no write waits for the next picture step, the open band has begun before this clock, and there is no side
pub record IsOpenForBus (fore : ForeValue) : Type 0 where
  pub waits : fore.log.waiting ≡ None
  pub before : fore.log.band.from < fore.machine.t
  pub side : fore.machine.side ≡ no_side

-- behind an access all that stays as it is, and no write waits
pub record StaysOnBus (old new : ForeValue) : Type 0 where
  pub chips : KeepsOnBus old.machine.chips new.machine.chips
  pub waits : new.log.waiting ≡ None
  pub from : new.log.band.from ≡ old.log.band.from
  pub side : new.machine.side ≡ old.machine.side

-- and behind the clock, but for the CIAs
pub record StaysBehind (old new : ForeValue) : Type 0 where
  pub chips : KeepsBus old.machine.chips new.machine.chips
  pub waits : new.log.waiting ≡ None
  pub from : new.log.band.from ≡ old.log.band.from
  pub side : new.machine.side ≡ old.machine.side

-- behind a clock further ones may come, in so many of which nothing is to be done for the CIAs
pub record GoesOnBus (rules : Option FetchRules) (rest : ℕ) (old new : ForeValue) : Type 0 where
  pub chips : KeepsBeside rules old.machine.chips new.machine.chips
  pub ready : IsOpenForBus new
  pub rests : CiasRest new.machine.t rest new.machine.chips

-- a clock within a line with which the open band goes on; no event is due in it
pub record IsWithinLine (fore : ForeValue) (seen : RasterValue) : Type 0 where
  pub underway : (first : ℕ) × IsUnderway fore first seen
  pub running : is_done fore ≡ false
  pub inner : 0 < fore.machine.beam.h
  pub last : fore.machine.beam.h < 226
  pub due : due_events fore.machine.beam fore.run.script.events ≡ []
  pub ready : IsOpenForBus fore

-- what is told of such a clock that is made on the bus: in so many clocks from it on nothing is to be done for the CIAs
pub record CanMakeClock (rules : Option FetchRules) (rest : ℕ) (claim : BlitterClaim) (fore : ForeValue) (seen : RasterValue) : Type 0 where
  pub within : IsWithinLine fore seen
  pub leaves : LeavesBeside rules fore.machine.beam fore.machine.chips
  pub claims : IsClaim claim fore.machine.chips
  pub rests : CiasRest fore.machine.t rest fore.machine.chips

-- the access of a clock was made, or not
abbrev pub is_made : Access → Bool
is_made X.Stays = true
is_made X.Ends = true
is_made X.Other = false

-- and the bus is known to be left in further clocks
abbrev pub stays_left : Access → Bool
stays_left X.Stays = true
stays_left X.Ends = false
stays_left X.Other = false

-- what came of the access with this ask, whatever raster there is: where it was not made all is as it was
pub record ServesAsk {E : Type 0} (ask : Ask) (old new : ForeValue) (out given : OutFilesValue) (result : Result Access E) : Type 0 where
  pub makes : IfOk result (λ access. is_made access ≡ true → (seen : RasterValue) → MakesAskedAccess old new seen seen out given)
  pub part : OnErr result ((seen : RasterValue) → AccessesPart old seen seen out given)
  pub kept : KeepsClock old new
  pub reads : IfOk result (λ access. is_made access ≡ true → new.machine.chip.reads ≡ reads_more (reads_of_ask ask) old.machine.chip.reads)
  pub few : OnErr result (new.machine.chip.reads ≡ reads_more (reads_of_ask ask) old.machine.chip.reads)
  pub bus : IfOk result (λ access. stays_left access ≡ true → StaysOnBus old new)
  pub same : IfOk result (λ access. is_made access ≡ false → new ≡ old)
  pub untold : IfOk result (λ access. is_made access ≡ false → given ≡ out)

-- the chips have asked for the slot of a clock with this
pub record HasAskedFor (ask : Ask) (old new : ForeValue) : Type 0 where
  pub asks : AsksInTime ask old.machine new.machine
  pub able : CanAsk ask
  pub wish : IsBlitAsk ask (kept_wish new.machine.chips)
  pub same : new ≡ record old { machine = new.machine }

-- and nobody but the Copper, the blitter and the processor may have it
abbrev pub HasAskedLate : ForeValue → ForeValue → Type 0
HasAskedLate old new = HasAskedFor (late_ask new.machine.beam new.machine.chips) old new

-- it was made, and memory was read as often as it needs
pub record HasMadeClock (old new : ForeValue) (seen after : RasterValue) (out given : OutFilesValue) : Type 0 where
  pub clock : Advances old new seen after out given
  pub place : IsSamePlace (later_beam 1 old.machine.beam) new.machine.beam
  pub count : new.machine.t ≡ old.machine.t + 1
  pub spent : new.spent ≡ old.spent
  pub reads : Rises (bus_reads old.run old.machine.t) (bus_reads old.run old.machine.t + looked_up old) old.machine.chip.reads new.machine.chip.reads

-- where memory was wanted
pub record HasMadeClockInPart (old new : ForeValue) (seen after : RasterValue) (out given : OutFilesValue) : Type 0 where
  pub part : GivesPart old seen after out given
  pub few : Rises 0 (bus_reads old.run old.machine.t + looked_up old) old.machine.chip.reads new.machine.chip.reads

-- what came of the rest of a clock whose chips have asked for the slot with this, whatever raster there is: where it was not made
-- all is as it was
pub record EndsItsClock {E : Type 0} (ask : Ask) (old new : ForeValue) (out given : OutFilesValue) (result : Result Access E) : Type 0 where
  pub made : IfOk result (λ access. is_made access ≡ true → (f : ForeValue) (before seen : RasterValue) → IsWithinLine f before
      → HasAskedFor ask f old → HasMadeClock f new seen seen out given)
  pub part : OnErr result ((f : ForeValue) (before seen : RasterValue) → IsWithinLine f before → HasAskedFor ask f old
      → HasMadeClockInPart f new seen seen out given)
  pub bus : IfOk result (λ access. stays_left access ≡ true → StaysBehind old new)
  pub same : IfOk result (λ access. is_made access ≡ false → new ≡ old)
  pub untold : IfOk result (λ access. is_made access ≡ false → given ≡ out)
  pub run : new.run ≡ old.run

-- the same of a clock in which the processor has the slot, or nobody: the answer is whether it was made
pub record EndsAlone {E : Type 0} (ask : Ask) (old new : ForeValue) (out given : OutFilesValue) (result : Result Bool E) : Type 0 where
  pub made : IfOk result (λ made. made ≡ true → (f : ForeValue) (before seen : RasterValue) → IsWithinLine f before
      → HasAskedFor ask f old → HasMadeClock f new seen seen out given)
  pub part : OnErr result ((f : ForeValue) (before seen : RasterValue) → IsWithinLine f before → HasAskedFor ask f old
      → HasMadeClockInPart f new seen seen out given)
  pub bus : IfOk result (λ made. made ≡ true → StaysBehind old new)
  pub cias : IfOk result (λ made. made ≡ true → KeepsCias old.machine.chips new.machine.chips)
  pub same : IfOk result (λ made. made ≡ false → new ≡ old)
  pub untold : IfOk result (λ made. made ≡ false → given ≡ out)
  pub run : new.run ≡ old.run

-- behind the access that a clock makes with this ask, for which the chips have asked: the log has its touch, and where the processor
-- has only waited, its turn is made too
pub record HasServed (ask : Ask) (made : Made) (waited : Bool) (old new : ForeValue) : Type 0 where
  pub turned : waited ≡ true → (out : OutFilesValue) → IsMadeAtOnce ask made old.machine out new.machine out
  pub access : waited ≡ false → (out : OutFilesValue) → IsAccessAtOnce ask made old.machine out new.machine out
  pub notes : new.log ≡ with_access_touch old.machine.t (touch_of made) old.log
  pub range : CanDo made → IsInRange (touch_of made)
  pub waits : waiting_write old.machine.t (touch_of made) ≡ None
  pub same : new ≡ record old { machine = new.machine; log = new.log }

-- the processor has taken its turn behind the access
pub record IsTurned (old : MachineValue) (out : OutFilesValue) (new : MachineValue) (given : OutFilesValue) : Type 0 where
  pub turns : Makes run_processor old out new given
  pub same : new ≡ record old { chips = new.chips }
  pub keeps : KeepsBus old.chips new.chips

-- the beam has advanced within a line
pub record AdvancesInLine (old new : MachineValue) : Type 0 where
  pub step : (system : System) → MakesQuietly (advance_beam system) old new
  pub beam : (system : System) → new.beam ≡ next_place system (is_interlaced old.chips.registers) old.beam
  pub count : new.t ≡ old.t + 1
  pub chip : new.chip ≡ old.chip
  pub chips : new.chips ≡ old.chips
  pub side : new.side ≡ old.side

-- both, or the second alone where the processor has waited already
pub record EndsBeside (waited : Bool) (old : MachineValue) (out : OutFilesValue) (new : MachineValue) (given : OutFilesValue) : Type 0 where
  pub processed : MachineValue
  pub turned : waited ≡ false → IsTurned old out processed given
  pub same : waited ≡ true → (processed ≡ old) × (given ≡ out)
  pub advances : AdvancesInLine processed new

-- the next n clocks are in this line, before the clock `limit`, and leave the bus to the planes by these rules, to the blitter,
-- which asks so, and to the processor
pub record AreOnBus (limit n : ℕ) (rules : Option FetchRules) (claim : BlitterClaim) (fore : ForeValue) : Type 0 where
  pub line : 0 < n → AreInLine limit n fore
  pub leave : 0 < n → LeaveBus rules fore.machine.beam n fore.machine.chips
  pub ready : 0 < n → IsOpenForBus fore
  pub asks : IsClaim claim fore.machine.chips

-- what is told of the next n clocks, as far as there are some: they are such clocks, before the clock `limit`
pub record CanMakeClocks (limit n : ℕ) (rules : Option FetchRules) (rest : ℕ) (claim : BlitterClaim) (fore : ForeValue) : Type 0 where
  pub line : 0 < n → AreInLine limit n fore
  pub leave : 0 < n → LeaveBus rules fore.machine.beam n fore.machine.chips
  pub ready : 0 < n → IsOpenForBus fore
  pub claims : 0 < n → IsClaim claim fore.machine.chips
  pub rests : 0 < n → CiasRest fore.machine.t rest fore.machine.chips

-- clocks before the limit were made, and memory was read as often as they need
pub record HasRunOnBus (limit : ℕ) (old new : ForeValue) (seen after : RasterValue) (out given : OutFilesValue) : Type 0 where
  pub clocks : RunsOn old new seen after out given
  pub on : old.machine.t ≤ new.machine.t
  pub most : new.machine.t ≤ max old.machine.t limit
  pub reads : RisesIn old.run old.machine.t (new.machine.t - old.machine.t) old.machine.chip.reads new.machine.chip.reads

-- where memory was wanted some of them were
pub record HasRunInPart (limit : ℕ) (old new : ForeValue) (seen after : RasterValue) (out given : OutFilesValue) : Type 0 where
  pub part : GivesPart old seen after out given
  pub few : RisesInSome limit old.run old.machine.t old.machine.chip.reads new.machine.chip.reads
