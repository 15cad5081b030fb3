-- A plain clock whose slot's owner is known.
use Rattle.std.specs.Prelude.{◌≡◌, ◌⊎◌, ℕ, ◌+◌, true, false, List, ◌++◌, bit_or, Some, None}
use Rattle.blit_words.specs.declared.blit.SlotAsk.{SlotAsk}
use Rattle.ocs_base.specs.declared.addr.Addr.{Addr}
use Rattle.ocs_base.specs.declared.beam.Beam.{Beam}
use Rattle.ocs_base.specs.declared.script.At.{At}
use Rattle.ocs_base.specs.declared.system.System.{System}
use Rattle.serial_model.specs.declared.bus.Ask.TheVariants as A
use Rattle.serial_model.specs.declared.bus.ProcessorAsk.{ProcessorAsk}
use Rattle.serial_model.specs.declared.bus.SideAsk.{SideAsk}
use Rattle.serial_model.specs.declared.bus.SideAsk.TheVariants as S
use Rattle.serial_model.specs.declared.fetch.PlaneAsk.{PlaneAsk}
use Rattle.serial_model.specs.declared.picture.Touch.TheVariants.{Plane}
use Rattle.serial_model.specs.Beam.{next_place}
use Rattle.serial_model.specs.Bus.{plane_wish, kinds_now, sprite_wish, copper_wish, copper_after, blit_wish, units_now, blit_owner_ask, missed_after, ask_at}
use Rattle.serial_model.specs.Cias.{tick_timers}
use Rattle.serial_model.specs.Made.{word_of}
use Rattle.serial_model.specs.Owner.{is_refresh}
use Rattle.serial_model.specs.Picture.{step_of, after_step, touch_picture}
use Rattle.serial_model.specs.PlaneFetch.{last_unit, move_plane_pointer, IsLastUnit}
use Rattle.serial_model.specs.Processor.{Processor, processor_wish}
use Rattle.serial_model.specs.Registers.{dmacon_of, is_interlaced}
use Rattle.serial_model.specs.Side.{tick_side, IsInTime}
use Rattle.serial_model.specs.State.{Chips, State}
use Rattle.serial_model.specs.Tick.{tick}
use Rattle.quiet_clocks.specs.PlainClock.{IsPlain, asked_by_side, comes_first}
use Rattle.quiet_clocks.specs.QuietClock.{TurnsTo}

-- ---- the fetch of a plane

-- a plain clock at which a plane asks for this; the side asks at its own clocks alone, and the processor's turn makes this of it
pub record IsPlaneClock (events : List At) (s : State) (ask : PlaneAsk) (after : Processor) : Type 0 where
  pub plain : IsPlain events s
  pub unit : IsLastUnit (last_unit s.chips.units)
  pub time : IsInTime s.beam (asked_by_side s)
  pub wish : plane_wish s.beam s.chips ≡ Some ask
  pub turn : TurnsTo s.chips.irq s.chips.processor after

-- the chips after it: the plane's pointer has moved, and who else asked did not get the slot
abbrev pub fetched_chips : Beam → ℕ → PlaneAsk → Processor → Chips → Chips
fetched_chips b t ask after c = record (tick_timers t c) {
  registers = move_plane_pointer b.h (last_unit (units_now b c)) ask.plane c.registers;
  units = units_now b c;
  kinds = kinds_now b c;
  copper = copper_after b None c;
  processor = after;
  missed = missed_after (processor_wish c.processor) (A.Plane ask) c.missed;
}

-- the state after it: the word at the plane's pointer has filled its latch, after the picture step
abbrev pub fetched_state : System → PlaneAsk → Processor → State → State
fetched_state system ask after s = record s {
  t = s.t + 1;
  beam = next_place system (is_interlaced (fetched_chips s.beam s.t ask after s.chips).registers) s.beam;
  chips = fetched_chips s.beam s.t ask after s.chips;
  side = tick_side s.beam (dmacon_of s.chips.registers) s.side;
  picture = touch_picture s.beam.h (word_of s.memory) (Plane ask.plane ask.at)
      (after_step (step_of system s.beam.v s.beam.h s.picture) s.picture);
  clx = bit_or s.clx (step_of system s.beam.v s.beam.h s.picture).clx;
  shown = s.shown ++ (step_of system s.beam.v s.beam.h s.picture).bytes;
}

abbrev pub PlaneTick : Type 0
PlaneTick = (system : System) (events : List At) (s : State) (ask : PlaneAsk) (after : Processor) → IsPlaneClock events s ask after →
    tick system events s ≡ fetched_state system ask after s

-- ---- Copper, blitter and processor

-- neither refresh, side, plane nor sprite asks for the slot
pub record NoneBeforeCopper (asked : SideAsk) (b : Beam) (c : Chips) : Type 0 where
  pub refresh : is_refresh b.h ≡ false
  pub side : asked ≡ S.Nothing
  pub plane : plane_wish b c ≡ None
  pub sprite : sprite_wish b c ≡ None

-- then the Copper has the slot where it asks
abbrev pub CopperHas : Type 0
CopperHas = (side : SideAsk) (b : Beam) (c : Chips) (at : Addr) → NoneBeforeCopper side b c → copper_wish b c ≡ Some at →
    ask_at side b c ≡ A.Copper at

-- and else the blitter, where it asks and the processor does not, or does not come first
abbrev pub BlitterHas : Type 0
BlitterHas = (side : SideAsk) (b : Beam) (c : Chips) (ask : SlotAsk) → NoneBeforeCopper side b c → copper_wish b c ≡ None →
    blit_wish c ≡ Some ask → (processor_wish c.processor ≡ None) ⊎ (comes_first c ≡ false) →
    ask_at side b c ≡ blit_owner_ask (Some ask)

-- or the processor, where it asks and the blitter does not, or does not come first
abbrev pub ProcessorHas : Type 0
ProcessorHas = (side : SideAsk) (b : Beam) (c : Chips) (ask : ProcessorAsk) → NoneBeforeCopper side b c → copper_wish b c ≡ None →
    processor_wish c.processor ≡ Some ask → (blit_wish c ≡ None) ⊎ (comes_first c ≡ true) →
    ask_at side b c ≡ A.Processor ask
