-- A quiet clock.
use Rattle.std.proofs.Common.{◌≡◌, ◌⊎◌, inl, inr, ℕ, ◌+◌, Bool, true, false, not, ◌&&◌, ◌++◌, if◌then◌else◌, List, Option, Some, None}
use Rattle.std.proofs.Common.{is_some, slice_set, arith, refl, ap, ◌∙◌, sym, append-nil}
use Rattle.std.specs.Option.{option_map}
use Rattle.blit_words.specs.declared.blit.SlotAsk.{SlotAsk}
use Rattle.ocs_base.specs.declared.addr.Addr.{Addr}
use Rattle.ocs_base.specs.declared.beam.Beam.{Beam}
use Rattle.ocs_base.specs.declared.system.System.{System}
use Rattle.serial_model.specs.declared.bus.Ask.{Ask}
use Rattle.serial_model.specs.declared.bus.Ask.TheVariants as A
use Rattle.serial_model.specs.declared.bus.ProcessorAsk.{ProcessorAsk}
use Rattle.serial_model.specs.declared.bus.SideAsk.{SideAsk}
use Rattle.serial_model.specs.declared.bus.SideAsk.TheVariants as S
use Rattle.serial_model.specs.declared.copper.CopperPhase.{CopperPhase}
use Rattle.serial_model.specs.declared.copper.CopperPhase.TheVariants.{First, Second, Waiting, Stopped}
use Rattle.serial_model.specs.declared.copper.CopperState.{CopperState}
use Rattle.serial_model.specs.declared.fetch.SpriteKind.{SpriteKind}
use Rattle.serial_model.specs.declared.trace.TraceLine.{TraceLine}
use Rattle.serial_model.specs.Beam.{is_line_start, next_place}
use Rattle.serial_model.specs.Bus.{ask_at, answer_to, answer_chips, made_by_ask, missed_after}
use Rattle.serial_model.specs.Bus.{copper_runs, plane_wish, kinds_now, sprite_wish, copper_wish, copper_after, blit_wish, units_now, ask_of_blit}
use Rattle.serial_model.specs.Cias.{tick_timers}
use Rattle.serial_model.specs.Copper.{wish_of, wish_in, is_stopped_phase, comparison_holds, step_in, step_copper}
use Rattle.serial_model.specs.Owner.{is_refresh}
use Rattle.serial_model.specs.PlaneFetch.{ask_for_plane}
use Rattle.serial_model.specs.Processor.{Processor, processor_wish}
use Rattle.serial_model.specs.Registers.{is_interlaced, is_danger, blitter_dma}
use Rattle.serial_model.specs.SpriteFetch.{kinds_at, kind_of, no_kinds, is_sprite_slot, is_second_slot, sprite_of, sprite_dma, ask_in_slot}
use Rattle.serial_model.specs.State.{Chips, State, BlitUnderWay, is_busy}
use Rattle.serial_model.specs.Tick.{run_processor, advance_beam, made_of}
use Rattle.serial_model.specs.Turns.{run_chips, interrupt_of, taken_lines}
use Rattle.quiet_clocks.specs.PlainClock.{shown_at, access_by, rest_of, comes_first}
use Rattle.quiet_clocks.specs.QuietClock.{IsCalm, TurnsTo, QuietTick, QuietMakes, CopperIsStill, IsStill, StillIsCalm}
use Rattle.quiet_clocks.proofs.Owners.{asked_in, late_wishes, asked_after}
use Rattle.quiet_clocks.proofs.PlainClock.{else_of, before_plain, owned_tick}

-- where nobody asks the slot is free, or refresh has it
free_of_none : (refresh first : Bool) → asked_in refresh first (late_wishes None None None) ≡ A.Free
free_of_none true first = refl
free_of_none false true = refl
free_of_none false false = refl

pub nobody_asks : (side : SideAsk) (b : Beam) (c : Chips) → side ≡ S.Nothing → IsCalm b c → ask_at side b c ≡ A.Free
nobody_asks side b c none calm =
    let refresh : Bool = is_refresh b.h in
    let first : Bool = comes_first c in
    asked_after side b c none calm.plane calm.sprite
    ∙ ap (λ (w : Option Addr). asked_in refresh first (late_wishes w (blit_wish c) (processor_wish c.processor))) calm.copper
    ∙ ap (λ (w : Option SlotAsk). asked_in refresh first (late_wishes None w (processor_wish c.processor))) calm.blit
    ∙ ap (λ (w : Option ProcessorAsk). asked_in refresh first (late_wishes None None w)) calm.wish
    ∙ free_of_none refresh first

-- the free access
free_chips : (b : Beam) (c : Chips) → IsCalm b c → answer_chips b A.Free 0 c ≡ record c { units = units_now b c; missed = 0 }
unfolding answer_chips
free_chips b c calm =
    ap (λ (kinds : List SpriteKind). record c {
      units = units_now b c;
      kinds = kinds;
      copper = copper_after b None c;
      missed = missed_after (processor_wish c.processor) A.Free c.missed;
    }) calm.kinds
    ∙ ap (λ (copper : CopperState). record c {
      units = units_now b c;
      copper = copper;
      missed = missed_after (processor_wish c.processor) A.Free c.missed;
    }) calm.steps
    ∙ ap (λ (wish : Option ProcessorAsk). record c { units = units_now b c; missed = missed_after wish A.Free c.missed }) calm.wish

free_access : (s : State) → IsCalm s.beam s.chips → access_by A.Free s ≡ record s { chips = record s.chips { units = units_now s.beam s.chips; missed = 0 } }
unfolding made_by_ask
free_access s calm =
    ap (λ (l : List TraceLine). record s { chips = answer_chips s.beam A.Free 0 s.chips; trace = l }) (append-nil s.trace)
    ∙ ap (λ (c : Chips). record s { chips = c }) (free_chips s.beam s.chips calm)

-- the processor's turn, in a state whose processor is this one
pub takes_turn : (s : State) (after : Processor) → TurnsTo s.chips.irq s.chips.processor after
    → run_processor s ≡ record s { chips = record s.chips { processor = after } }
unfolding run_chips interrupt_of
takes_turn s after turn =
    ap (λ (c : Chips). record s { chips = c; trace = s.trace ++ taken_lines s.beam (interrupt_of s.chips) }) (turn s.chips refl).0
    ∙ ap (λ begins. record s { chips = record s.chips { processor = after }; trace = s.trace ++ taken_lines s.beam begins }) (turn s.chips refl).1
    ∙ ap (λ (l : List TraceLine). record s { chips = record s.chips { processor = after }; trace = l }) (append-nil s.trace)

-- what the timers change is no part of the wishes
calm_at : (t : ℕ) (b : Beam) (c : Chips) → IsCalm b c → IsCalm b (tick_timers t c)
calm_at t b c calm = record {
  plane = calm.plane;
  kinds = calm.kinds;
  sprite = calm.sprite;
  copper = calm.copper;
  steps = calm.steps;
  blit = calm.blit;
  wish = calm.wish;
}

rest_of_free : (system : System) (s : State) (after : Processor) → IsCalm s.beam s.chips → TurnsTo s.chips.irq s.chips.processor after
    → rest_of system A.Free s ≡ record s {
      t = s.t + 1;
      beam = next_place system (is_interlaced s.chips.registers) s.beam;
      chips = record s.chips { units = units_now s.beam s.chips; processor = after; missed = 0 };
    }
rest_of_free system s after calm turn =
    ap (λ (x : State). advance_beam system (run_processor x)) (free_access s calm)
    ∙ ap (λ (x : State). advance_beam system x)
    (takes_turn (record s { chips = record s.chips { units = units_now s.beam s.chips; missed = 0 } }) after turn)

pub quiet_tick : QuietTick
quiet_tick system events s after quiet =
    owned_tick system events s A.Free quiet.plain (nobody_asks _ s.beam s.chips quiet.side quiet.calm)
    ∙ rest_of_free system (shown_at system s) after (calm_at s.t s.beam s.chips quiet.calm) quiet.turn

pub quiet_makes : QuietMakes
unfolding made_by_ask ask_at
quiet_makes system events s after quiet =
    ap (λ (x : State). made_of x) (before_plain system events s quiet.plain)
    ∙ ap (λ (a : Ask). made_by_ask a (answer_to a s.beam (shown_at system s).clx (shown_at system s).chips s.memory) (shown_at system s).chips)
    (nobody_asks _ s.beam s.chips quiet.side quiet.calm)

-- ---- what tells that nobody asks

not_slot : (b : Beam) → is_sprite_slot b.h ≡ false → (is_sprite_slot b.h && not (is_second_slot b.h)) ≡ false
not_slot b slot = ap (λ s. s && not (is_second_slot b.h)) slot

still_kinds : (b : Beam) (c : Chips) → IsStill b c → kinds_now b c ≡ c.kinds
unfolding kinds_at
still_kinds b c still =
    let before : List SpriteKind = if is_line_start b then no_kinds else c.kinds in
    let decided : List SpriteKind = slice_set before (sprite_of b.h) (kind_of b.v c.registers (sprite_of b.h)) in
    else_of (is_sprite_slot b.h && not (is_second_slot b.h)) decided before (not_slot b still.slot)
    ∙ else_of (is_line_start b) no_kinds c.kinds still.inner

still_sprite : (b : Beam) (c : Chips) → IsStill b c → sprite_wish b c ≡ None
still_sprite b c still =
    let free : Bool = not (is_some (plane_wish b c)) in
    ap (λ slot. ask_in_slot (if slot && sprite_dma c.registers && free then Some (sprite_of b.h) else None) b.h c.registers (kinds_now b c)) still.slot

stopped_wish : (phase : CopperPhase) (at : Addr) → is_stopped_phase phase ≡ true → wish_in phase at ≡ None
stopped_wish First at is = grind arith
stopped_wish Second at is = grind arith
stopped_wish Waiting at is = refl
stopped_wish Stopped at is = refl

stopped_step : (phase : CopperPhase) (b : Beam) (busy danger : Bool) (c : CopperState) → is_stopped_phase phase ≡ true
    → step_in b busy danger None phase c ≡ c
stopped_step First b busy danger c is = refl
stopped_step Second b busy danger c is = refl
stopped_step Waiting b busy danger c is = grind arith
stopped_step Stopped b busy danger c is = refl

pub if_either : {X : Type 0} (b : Bool) (x y : X) → x ≡ y → (if b then x else y) ≡ y
if_either true x y is = is
if_either false x y is = refl

pub still_copper : (b : Beam) (c : Chips) → CopperIsStill b c → copper_wish b c ≡ None
still_copper b c (inl off) = else_of (copper_runs b c) (wish_of c.copper) None off
still_copper b c (inr (inl stopped)) = if_either (copper_runs b c) (wish_of c.copper) None (stopped_wish c.copper.phase c.copper.at stopped)
still_copper b c (inr (inr waits)) =
    if_either (copper_runs b c) (wish_of c.copper) None (ap (λ (phase : CopperPhase). wish_in phase c.copper.at) waits.0)

waiting_step : (b : Beam) (busy danger : Bool) (c : CopperState) → c.phase ≡ Waiting → comparison_holds b busy c.first c.second ≡ false
    → step_in b busy danger None c.phase c ≡ c
waiting_step b busy danger c is below =
    ap (λ (phase : CopperPhase). step_in b busy danger None phase c) is
    ∙ ap (λ holds. record c { phase = if holds then First else Waiting }) below
    ∙ ap (λ (phase : CopperPhase). record c { phase = phase }) (sym is)

pub still_steps : (b : Beam) (c : Chips) → CopperIsStill b c → copper_after b None c ≡ c.copper
unfolding step_copper
still_steps b c (inl off) = else_of (copper_runs b c) _ c.copper off
still_steps b c (inr (inl stopped)) =
    if_either (copper_runs b c) _ c.copper (stopped_step c.copper.phase b (is_busy c) (is_danger c.registers) c.copper stopped)
still_steps b c (inr (inr waits)) =
    if_either (copper_runs b c) _ c.copper (waiting_step b (is_busy c) (is_danger c.registers) c.copper waits.0 waits.1)

pub still_blit : (c : Chips) → ((blitter_dma c.registers ≡ false) ⊎ (c.blit ≡ None)) → blit_wish c ≡ None
still_blit c (inl off) = else_of (blitter_dma c.registers) (option_map ask_of_blit c.blit) None off
still_blit c (inr none) =
    if_either (blitter_dma c.registers) (option_map ask_of_blit c.blit) None (ap (λ (run : Option BlitUnderWay). option_map ask_of_blit run) none)

pub still_is_calm : StillIsCalm
still_is_calm b c still = record {
  plane = ap (λ found. option_map (λ plane. ask_for_plane c.registers plane) found) still.plane;
  kinds = still_kinds b c still;
  sprite = still_sprite b c still;
  copper = still_copper b c still.copper;
  steps = still_steps b c still.copper;
  blit = still_blit c still.blit;
  wish = still.wish;
}
