-- Clocks of a line at which everybody but the bitplanes rests: at each of them at most a plane is fetched.
use Rattle.std.specs.Prelude.{◌≡◌, ◌⊎◌, ◌<◌, ◌≤◌, ℕ, zero, suc, ◌+◌, Bool, false, List, [], Option, Some, None}
use Rattle.std.specs.Option.{option_map}
use Rattle.ocs_base.specs.declared.beam.Beam.{Beam}
use Rattle.ocs_base.specs.declared.script.At.{At}
use Rattle.ocs_base.specs.declared.system.System.{System}
use Rattle.serial_model.specs.declared.bus.Made.{Made}
use Rattle.serial_model.specs.declared.bus.Made.TheVariants as M
use Rattle.serial_model.specs.declared.bus.SideAsk.{SideAsk}
use Rattle.serial_model.specs.declared.bus.SideAsk.TheVariants as S
use Rattle.serial_model.specs.declared.fetch.PlaneAsk.{PlaneAsk}
use Rattle.serial_model.specs.Bus.{plane_wish, kinds_now, copper_wish, copper_after, blit_wish, units_now, plane_owner_ask, ask_at}
use Rattle.serial_model.specs.Events.{due_events}
use Rattle.serial_model.specs.Laws.{made_in}
use Rattle.serial_model.specs.Made.{word_of, touch_of}
use Rattle.serial_model.specs.Picture.{step_of, after_step, touch_if_any}
use Rattle.serial_model.specs.PlaneFetch.{fetched_plane, last_unit, last_unit_at, units_at, ask_for_plane, plane_ask, move_planes, move_if_fetched, IsLastUnit}
use Rattle.serial_model.specs.Processor.{Processor, processor_wish}
use Rattle.serial_model.specs.Registers.{Registers, dmacon_of, blitter_dma}
use Rattle.serial_model.specs.Side.{bits_of_side, ask_of_side, later_side}
use Rattle.serial_model.specs.SpriteFetch.{sprite_ask}
use Rattle.serial_model.specs.State.{Chips, State}
use Rattle.serial_model.specs.Tick.{tick}
use Rattle.irq_cia.specs.Ticks.{HasNoUnderflow}
use Rattle.quiet_clocks.specs.Ticks.{ticks_in}
use Rattle.quiet_clocks.specs.PlainClock.{IsPlain, AsksNothingNew, asked_by_side}
use Rattle.quiet_clocks.specs.QuietClock.{TurnsTo, CopperIsStill, quiet_chips, quiet_state}
use Rattle.quiet_clocks.specs.QuietClocks.{clocks, later_chips}
use Rattle.serial_model.specs.Beam.{later_beam}

-- ---- one clock

-- of the chips nobody but the planes asks for the slot, no sprite's kind is decided, and the Copper stays as it is
pub record IsAtRest (b : Beam) (c : Chips) : Type 0 where
  pub kinds : kinds_now b c ≡ c.kinds
  pub sprite : (taken : Bool) → sprite_ask b.h c.registers c.kinds taken ≡ None
  pub copper : copper_wish b c ≡ None
  pub steps : copper_after b None c ≡ c.copper
  pub blit : blit_wish c ≡ None
  pub wish : processor_wish c.processor ≡ None

-- then the planes have the slot where they ask
abbrev pub PlanesHave : Type 0
PlanesHave = (side : SideAsk) (b : Beam) (c : Chips) → side ≡ S.Nothing → IsLastUnit (last_unit c.units) → IsAtRest b c →
    ask_at side b c ≡ plane_owner_ask (plane_wish b c)

-- nothing is due, nobody but the planes asks for the slot, and the processor's turn makes this of it
pub record IsFetchClock (events : List At) (s : State) (after : Processor) : Type 0 where
  pub plain : IsPlain events s
  pub side : asked_by_side s ≡ S.Nothing
  pub unit : IsLastUnit (last_unit s.chips.units)
  pub rest : IsAtRest s.beam s.chips
  pub turn : TurnsTo s.chips.irq s.chips.processor after

-- what the fetch of a plane makes, where there is one
abbrev pub made_by_plane : Option PlaneAsk → Made
made_by_plane None = M.Nothing
made_by_plane (Some ask) = M.Plane ask.plane ask.at

-- the state after such a clock, where this plane is fetched, or none: that of a quiet clock, but that the plane's pointer has
-- moved and the word at it has filled the plane's latch
abbrev pub state_with_fetch : System → Option ℕ → Processor → State → State
state_with_fetch system found after s = record (quiet_state system after s) {
  chips = record (quiet_chips s.beam s.t after s.chips) {
    registers = move_if_fetched s.beam.h (last_unit (units_now s.beam s.chips)) found s.chips.registers;
  };
  picture = touch_if_any s.beam.h (word_of s.memory)
      (touch_of (made_by_plane (option_map (λ plane. ask_for_plane s.chips.registers plane) found)))
      (after_step (step_of system s.beam.v s.beam.h s.picture) s.picture);
}

abbrev pub fetch_state : System → Processor → State → State
fetch_state system after s =
    state_with_fetch system (fetched_plane s.beam.h s.chips.registers (last_unit (units_now s.beam s.chips))) after s

abbrev pub FetchTick : Type 0
FetchTick = (system : System) (events : List At) (s : State) (after : Processor) → IsFetchClock events s after →
    tick system events s ≡ fetch_state system after s

-- its access makes a fetch at most
abbrev pub FetchMakes : Type 0
FetchMakes = (system : System) (events : List At) (s : State) (after : Processor) → IsFetchClock events s after →
    made_in system events s ≡ made_by_plane (plane_wish s.beam s.chips)

-- ---- clocks one behind the other

-- what the planes' fetches change: the registers, by their pointers, and the clocks of the line at which units began
pub record Planes : Type 0 where
  pub registers : Registers
  pub units : List ℕ

abbrev pub planes_after : Beam → Planes → Planes
planes_after b p = record {
  registers = move_planes b.h (last_unit (units_at b p.registers p.units)) p.registers;
  units = units_at b p.registers p.units;
}

-- so many clocks on
unfoldable pub planes_on : ℕ → Beam → Planes → Planes
planes_on zero b p = p
planes_on (suc n) b p = planes_after (later_beam n b) (planes_on n b p)

abbrev pub planes_of_chips : Chips → Planes
planes_of_chips c = record { registers = c.registers; units = c.units }

-- what the planes ask for at a clock
abbrev pub ask_of_planes : Beam → Planes → Option PlaneAsk
ask_of_planes b p = plane_ask b.h p.registers (last_unit (units_at b p.registers p.units))

-- the same, with the last unit alone
pub record Fetching : Type 0 where
  pub registers : Registers
  pub last : Option ℕ

abbrev pub fetching_after : Beam → Fetching → Fetching
fetching_after b f = record {
  registers = move_planes b.h (last_unit_at b f.registers f.last) f.registers;
  last = last_unit_at b f.registers f.last;
}

unfoldable pub fetching_on : ℕ → Beam → Fetching → Fetching
fetching_on zero b f = f
fetching_on (suc n) b f = fetching_after (later_beam n b) (fetching_on n b f)

abbrev pub ask_of_fetching : Beam → Fetching → Option PlaneAsk
ask_of_fetching b f = plane_ask b.h f.registers (last_unit_at b f.registers f.last)

abbrev pub fetching_of : Planes → Fetching
fetching_of p = record { registers = p.registers; last = last_unit p.units }

abbrev pub FetchingLater : Type 0
FetchingLater = (n : ℕ) (b : Beam) (p : Planes) → fetching_of (planes_on n b p) ≡ fetching_on n b (fetching_of p)

-- the chips so many such clocks on, where the processor is after k clocks the k-th of these
abbrev pub fetched_later : Beam → ℕ → ℕ → (ℕ → Processor) → Chips → Chips
fetched_later b t n processors c = record (later_chips b t n processors c) {
  registers = (planes_on n b (planes_of_chips c)).registers;
  units = (planes_on n b (planes_of_chips c)).units;
}

-- the state so many such clocks on; picture, collisions and pixel bytes are those of the clocks one by one
unfoldable pub state_fetched_later : System → List At → ℕ → (ℕ → Processor) → State → State
state_fetched_later system events n processors s = record (clocks system events n s) {
  t = s.t + n;
  beam = later_beam n s.beam;
  memory = s.memory;
  chips = fetched_later s.beam s.t n processors s.chips;
  side = later_side n s.beam (dmacon_of s.chips.registers) s.side;
  trace = s.trace;
}

-- what is known of a state by which the next n clocks are such: they lie within the line, and at each of them no event is due,
-- nothing new is requested, neither side nor chips but the planes ask for the slot, and the processor turns to the next of these;
-- and no timer underflows among them
pub record IsFetchSpan (events : List At) (s : State) (n : ℕ) (processors : ℕ → Processor) : Type 0 where
  pub inner : 0 < s.beam.h
  pub last : s.beam.h + n ≤ 226
  pub begin : processors 0 ≡ s.chips.processor
  pub unit : IsLastUnit (last_unit s.chips.units)
  pub due : (k : ℕ) → k < n → due_events (later_beam k s.beam) events ≡ []
  pub lines : (k : ℕ) → k < n →
      AsksNothingNew (bits_of_side (later_beam k s.beam) (dmacon_of s.chips.registers) (later_side k s.beam (dmacon_of s.chips.registers) s.side))
      s.chips
  pub side : (k : ℕ) → k < n →
      ask_of_side (later_beam k s.beam) (dmacon_of s.chips.registers) (later_side (suc k) s.beam (dmacon_of s.chips.registers) s.side)
      ≡ S.Nothing
  pub rest : (k : ℕ) → k < n → IsAtRest (later_beam k s.beam) (record s.chips { processor = processors k })
  pub turns : (k : ℕ) → k < n → TurnsTo s.chips.irq (processors k) (processors (suc k))
  pub timers_a : HasNoUnderflow (ticks_in s.t n) s.chips.cia_a
  pub timers_b : HasNoUnderflow (ticks_in s.t n) s.chips.cia_b

-- what is known of the chips by which the next n clocks are such, where no side is, the clocks lie within the line, and no event
-- of the script is due
pub record AreResting (b : Beam) (t n : ℕ) (processors : ℕ → Processor) (c : Chips) : Type 0 where
  pub begin : processors 0 ≡ c.processor
  pub unit : IsLastUnit (last_unit c.units)
  pub lines : AsksNothingNew 0 c
  pub rest : (k : ℕ) → k < n → IsAtRest (later_beam k b) (record c { processor = processors k })
  pub turns : (k : ℕ) → k < n → TurnsTo c.irq (processors k) (processors (suc k))
  pub timers_a : HasNoUnderflow (ticks_in t n) c.cia_a
  pub timers_b : HasNoUnderflow (ticks_in t n) c.cia_b

-- what tells that everybody but the planes rests: what sprites read stays and no sprite asks, the Copper is still, the blitter is
-- without DMA or blit, and the processor asks for nothing
pub record IsStillBesidePlanes (b : Beam) (c : Chips) : Type 0 where
  pub kinds : kinds_now b c ≡ c.kinds
  pub sprite : (taken : Bool) → sprite_ask b.h c.registers c.kinds taken ≡ None
  pub copper : CopperIsStill b c
  pub blit : (blitter_dma c.registers ≡ false) ⊎ (c.blit ≡ None)
  pub wish : processor_wish c.processor ≡ None

abbrev pub StillIsAtRest : Type 0
StillIsAtRest = (b : Beam) (c : Chips) → IsStillBesidePlanes b c → IsAtRest b c

-- n such clocks
abbrev pub FetchSpan : Type 0
FetchSpan = (system : System) (events : List At) (n : ℕ) (s : State) (processors : ℕ → Processor) → IsFetchSpan events s n processors →
    clocks system events n s ≡ state_fetched_later system events n processors s

-- the first of them are such clocks
abbrev pub FewerFetchClocks : Type 0
FewerFetchClocks = (events : List At) (m n : ℕ) (s : State) (processors : ℕ → Processor) → m ≤ n → IsFetchSpan events s n processors →
    IsFetchSpan events s m processors

-- each of them is one
abbrev pub EachIsFetchClock : Type 0
EachIsFetchClock = (system : System) (events : List At) (n k : ℕ) (s : State) (processors : ℕ → Processor) → IsFetchSpan events s n processors →
    k < n → IsFetchClock events (state_fetched_later system events k processors s) (processors (suc k))
