-- A colour clock at which nobody asks for the bus and nothing is due.
use Rattle.std.specs.Prelude.{◌≡◌, ◌⊎◌, ℕ, ◌+◌, true, false, List, ◌++◌, bit_or, None}
use Rattle.irq_cia.specs.Interrupts.{Interrupts}
use Rattle.ocs_base.specs.declared.beam.Beam.{Beam}
use Rattle.ocs_base.specs.declared.script.At.{At}
use Rattle.ocs_base.specs.declared.system.System.{System}
use Rattle.serial_model.specs.declared.bus.Made.TheVariants as M
use Rattle.serial_model.specs.declared.bus.SideAsk.TheVariants as S
use Rattle.serial_model.specs.declared.copper.CopperPhase.TheVariants.{Waiting}
use Rattle.serial_model.specs.Beam.{is_line_start, next_place}
use Rattle.serial_model.specs.Bus.{copper_runs, plane_wish, kinds_now, sprite_wish, copper_wish, copper_after, blit_wish, units_now}
use Rattle.serial_model.specs.Cias.{tick_timers}
use Rattle.serial_model.specs.Copper.{is_stopped, comparison_holds}
use Rattle.serial_model.specs.Laws.{made_in}
use Rattle.serial_model.specs.Picture.{step_of, after_step}
use Rattle.serial_model.specs.PlaneFetch.{fetched_plane, last_unit}
use Rattle.serial_model.specs.Processor.{Processor, processor_wish, turn_of}
use Rattle.serial_model.specs.Registers.{blitter_dma, dmacon_of, is_interlaced}
use Rattle.serial_model.specs.Side.{tick_side}
use Rattle.serial_model.specs.SpriteFetch.{is_sprite_slot}
use Rattle.serial_model.specs.State.{Chips, State, is_busy}
use Rattle.serial_model.specs.Tick.{tick}
use Rattle.serial_model.specs.Turns.{take_turn, begins_by}
use Rattle.quiet_clocks.specs.PlainClock.{IsPlain, asked_by_side}

-- of the chips nobody asks for the slot, no sprite's kind is decided, and the Copper stays as it is
pub record IsCalm (b : Beam) (c : Chips) : Type 0 where
  pub plane : plane_wish b c ≡ None
  pub kinds : kinds_now b c ≡ c.kinds
  pub sprite : sprite_wish b c ≡ None
  pub copper : copper_wish b c ≡ None
  pub steps : copper_after b None c ≡ c.copper
  pub blit : blit_wish c ≡ None
  pub wish : processor_wish c.processor ≡ None

-- the turn of this processor makes that one of it, whatever the other chips are, as long as the interrupts are these, and no
-- interrupt begins
abbrev pub TurnsTo : Interrupts → Processor → Processor → Type 0
TurnsTo irq p after = (c : Chips) → c.irq ≡ irq →
    (take_turn (turn_of p) (record c { processor = p }) ≡ record c { processor = after })
    × (begins_by (turn_of p) (record c { processor = p }) ≡ None)

-- nobody asks for the slot, nothing is due, and the processor's turn makes this of it
pub record IsQuiet (events : List At) (s : State) (after : Processor) : Type 0 where
  pub plain : IsPlain events s
  pub side : asked_by_side s ≡ S.Nothing
  pub calm : IsCalm s.beam s.chips
  pub turn : TurnsTo s.chips.irq s.chips.processor after

-- the chips after a quiet clock: the timers have ticked, a unit of bitplane fetch may have begun, and the processor has had
-- its turn
abbrev pub quiet_chips : Beam → ℕ → Processor → Chips → Chips
quiet_chips b t after c = record (tick_timers t c) { units = units_now b c; processor = after; missed = 0 }

-- the state after a quiet clock
abbrev pub quiet_state : System → Processor → State → State
quiet_state system after s = record s {
  t = s.t + 1;
  beam = next_place system (is_interlaced s.chips.registers) s.beam;
  chips = quiet_chips s.beam s.t after s.chips;
  side = tick_side s.beam (dmacon_of s.chips.registers) s.side;
  picture = after_step (step_of system s.beam.v s.beam.h s.picture) s.picture;
  clx = bit_or s.clx (step_of system s.beam.v s.beam.h s.picture).clx;
  shown = s.shown ++ (step_of system s.beam.v s.beam.h s.picture).bytes;
}

-- a quiet clock
abbrev pub QuietTick : Type 0
QuietTick = (system : System) (events : List At) (s : State) (after : Processor) → IsQuiet events s after →
    tick system events s ≡ quiet_state system after s

-- its access makes nothing
abbrev pub QuietMakes : Type 0
QuietMakes = (system : System) (events : List At) (s : State) (after : Processor) → IsQuiet events s after → made_in system events s ≡ M.Nothing

-- the Copper has no part in this clock, is stopped, or waits for a place of the beam or the blitter
abbrev pub CopperIsStill : Beam → Chips → Type 0
CopperIsStill b c =
    (copper_runs b c ≡ false)
    ⊎ ((is_stopped c.copper ≡ true)
    ⊎ ((c.copper.phase ≡ Waiting) × (comparison_holds b (is_busy c) c.copper.first c.copper.second ≡ false)))

-- what tells that nobody asks: neither a line's start nor a sprite's slot, no plane to fetch, a Copper that is still, a blitter
-- without DMA or blit, and a processor that asks for nothing
pub record IsStill (b : Beam) (c : Chips) : Type 0 where
  pub inner : is_line_start b ≡ false
  pub slot : is_sprite_slot b.h ≡ false
  pub plane : fetched_plane b.h c.registers (last_unit (units_now b c)) ≡ None
  pub copper : CopperIsStill b c
  pub blit : (blitter_dma c.registers ≡ false) ⊎ (c.blit ≡ None)
  pub wish : processor_wish c.processor ≡ None

abbrev pub StillIsCalm : Type 0
StillIsCalm = (b : Beam) (c : Chips) → IsStill b c → IsCalm b c
