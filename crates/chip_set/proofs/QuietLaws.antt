-- Clocks at which no chip does anything but wait.
use Rattle.std.proofs.Common.{◌≡◌, ◌⊎◌, inl, inr, ◌<◌, ◌≤◌, ◌^◌, ℕ, suc, ◌+◌, ◌%◌, ◌==◌, Bool, true, false, ◌&&◌}
use Rattle.std.proofs.Common.{List, Option, Some, None, is_some, arith, refl, ap, subst, sym, ◌∙◌}
use Rattle.std.proofs.lemmas.Bool.Decides.{nat_tests}
use Rattle.blitter.specs.declared.Blit.{Blit}
use Rattle.bitplane_dma.specs.Quiet.{FetchesNothing}
use Rattle.copper.specs.Quiet.{DoesNothing}
use Rattle.cpu_bus.specs.Quiet.{RestsFor, CanCount, waited}
use Rattle.irq_cia.specs.Interrupts.{Interrupts}
use Rattle.irq_cia.specs.Ticks.{HasNoUnderflow, ticks_on}
use Rattle.irq_cia.specs.declared.cia.CiaState.{CiaState}
use Rattle.ocs_base.specs.declared.beam.Beam.{Beam}
use Rattle.serial_model.specs.declared.copper.CopperPhase.TheVariants.{Waiting}
use Rattle.serial_model.specs.declared.copper.CopperState.{CopperState}
use Rattle.serial_model.specs.declared.fetch.SpriteKind.{SpriteKind}
use Rattle.serial_model.specs.Copper.{is_stopped, comparison_holds}
use Rattle.serial_model.specs.PlaneFetch.{fetched_plane, last_unit}
use Rattle.serial_model.specs.Processor.{Processor, turn_of}
use Rattle.serial_model.specs.Turns.{take_turn, begins_by, go_on_with, begins_with}
use Rattle.serial_model.specs.declared.processor.Turn.TheVariants.{Goes}
use Rattle.serial_model.specs.Registers.{Registers, blitter_dma, copper_dma}
use Rattle.serial_model.specs.State.{BlitUnderWay, Chips}
use Rattle.sprite_dma.specs.Quiet.{ReadsNothing}
use Rattle.quiet_clocks.specs.PlainClock.{AsksNothingNew}
use Rattle.quiet_clocks.specs.QuietClock.{CopperIsStill, TurnsTo}
use Rattle.quiet_clocks.specs.QuietClocks.{AreQuiet, later_units, later_chips}
use Rattle.serial_model.specs.Beam.{later_beam}
use Rattle.quiet_clocks.specs.IdleClocks.{IsIdle}
use Rattle.quiet_clocks.specs.Ticks.{ticks_in}
use Rattle.quiet_clocks.proofs.IdleClocks.{idle_is_calm, last_later}
use Rattle.quiet_clocks.specs.Plan.{unit_on}
use Rattle.quiet_clocks.proofs.PlainClock.{else_of}
use Rattle.cpu_bus.specs.Bus.{IsProcessorOf}
use Rattle.cpu_bus.specs.declared.BusCpu.{BusCpu}
use Rattle.cpu_bus.proofs.QuietLaws.{waited_none}
use Rattle.chip_set.specs.Chips.{WorkingChips, IsBlitOf, IsChipsOf, plain_chips}
use Rattle.chip_set.specs.Quiet.{PassesQuiet, IsCopperIdle, AreIdle, AreLater}

-- fewer clocks
pub fewer_rest : (irq : Interrupts) (m n : ℕ) (now : BusCpu) → m ≤ n → RestsFor irq n now → RestsFor irq m now
fewer_rest irq m n now few rests p is k below = rests p is k (omega (arith, few, below))

pub fewer_count : (m n : ℕ) (now : BusCpu) → m ≤ n → CanCount n now → CanCount m now
fewer_count m n now few counts passing some = let room : now.spent + n < 2 ^ 32 = counts passing (omega (arith, few, some)) in omega (arith, few, room)

-- what is said of the working chips holds of those that they stand for
planes_of : (k : ℕ) (b : Beam) (now : WorkingChips) (c : Chips) → IsChipsOf now c → FetchesNothing k b now.registers now.last
    → FetchesNothing k b c.registers (last_unit c.units)
planes_of k b now c is fetches =
    subst (λ (r : Registers). FetchesNothing k b r (last_unit c.units)) (sym is.registers)
    (subst (λ (l : Option ℕ). FetchesNothing k b now.registers l) (sym is.last) fetches)

pub sprites_of : (b : Beam) (now : WorkingChips) (c : Chips) → IsChipsOf now c → ReadsNothing b now.registers now.kinds → ReadsNothing b c.registers c.kinds
sprites_of b now c is reads =
    subst (λ (r : Registers). ReadsNothing b r c.kinds) (sym is.registers)
    (subst (λ (kinds : List SpriteKind). ReadsNothing b now.registers kinds) (sym is.kinds) reads)

pub same_busy : (kept : Option Blit) (run : Option BlitUnderWay) → IsBlitOf kept run → is_some kept ≡ is_some run
same_busy None None is = refl
same_busy None (Some run) is = absurd is
same_busy (Some blit) None is = absurd is
same_busy (Some blit) (Some run) is = refl

same_none : (kept : Option Blit) (run : Option BlitUnderWay) → IsBlitOf kept run → kept ≡ None → run ≡ None
same_none None None is none = refl
same_none None (Some run) is none = absurd is
same_none (Some blit) None is none = refl
same_none (Some blit) (Some run) is none = grind arith

abbrev pub StillWith : Beam → Registers → Bool → CopperState → Type 0
StillWith b registers busy copper =
    (((b.h % 2 == 0) && copper_dma registers) ≡ false)
    ⊎ ((is_stopped copper ≡ true) ⊎ ((copper.phase ≡ Waiting) × (comparison_holds b busy copper.first copper.second ≡ false)))

off_runs : (even dma : Bool) → dma ≡ false → (even && dma) ≡ false
off_runs true dma off = off
off_runs false dma off = refl

pub still_with : (b : Beam) (registers : Registers) (busy : Bool) (copper : CopperState)
    → (copper_dma registers ≡ false) ⊎ DoesNothing b busy copper → StillWith b registers busy copper
still_with b registers busy copper (inl off) = inl (off_runs (b.h % 2 == 0) (copper_dma registers) off)
still_with b registers busy copper (inr (inl odd)) = inl (ap (λ even. even && copper_dma registers) odd)
still_with b registers busy copper (inr (inr rests)) = inr rests

pub copper_of : (b : Beam) (now : WorkingChips) (c : Chips) → IsChipsOf now c → IsCopperIdle b now → CopperIsStill b c
copper_of b now c is idle =
    subst (λ (r : Registers). StillWith b r (is_some c.blit) c.copper) (sym is.registers)
    (subst (λ (copper : CopperState). StillWith b now.registers (is_some c.blit) copper) (sym is.copper)
    (subst (λ busy. StillWith b now.registers busy now.copper) (same_busy now.blit c.blit is.blit)
    (still_with b now.registers (is_some now.blit) now.copper idle)))

pub blit_of : (now : WorkingChips) (c : Chips) → IsChipsOf now c → (blitter_dma now.registers ≡ false) ⊎ (now.blit ≡ None)
    → (blitter_dma c.registers ≡ false) ⊎ (c.blit ≡ None)
blit_of now c is (inl off) = inl (ap (λ (r : Registers). blitter_dma r) is.registers ∙ off)
blit_of now c is (inr none) = inr (same_none now.blit c.blit is.blit none)

pub lines_of : (now : WorkingChips) (c : Chips) → IsChipsOf now c → AsksNothingNew 0 (plain_chips now) → AsksNothingNew 0 c
lines_of now c is lines =
    subst (λ (irq : Interrupts). AsksNothingNew 0 (record c { irq = irq })) (sym is.irq)
    (subst (λ (cia : CiaState). AsksNothingNew 0 (record c { irq = now.irq; cia_a = cia })) (sym is.cia_a)
    (subst (λ (cia : CiaState). AsksNothingNew 0 (record c { irq = now.irq; cia_a = now.cia_a; cia_b = cia })) (sym is.cia_b) lines))

-- a clock among them
abbrev chips_at : Beam → WorkingChips → Chips → ℕ → Chips
chips_at b now c k = record c { processor = waited now.processor k c.processor; units = later_units k b c.registers c.units }

idle_at : (b : Beam) (t n k : ℕ) (now : WorkingChips) (c : Chips) → AreIdle b t n now → IsChipsOf now c → k < n
    → IsIdle (later_beam k b) (chips_at b now c k)
unfolding later_units
idle_at b t n k now c idle is below =
    let fetches : FetchesNothing k b c.registers (last_unit c.units) = planes_of k b now c is (idle.planes k below) in
    let reads : ReadsNothing (later_beam k b) c.registers c.kinds = sprites_of (later_beam k b) now c is (idle.rest.sprites k below) in
    record {
      kinds = reads.stay;
      sprite = reads.ask;
      plane = ap (λ (last : Option ℕ). fetched_plane (b.h + k) c.registers last) (last_later (suc k) b c.registers c.units) ∙ fetches;
      copper = copper_of (later_beam k b) now c is (idle.rest.copper k below);
      blit = blit_of now c is idle.rest.blit;
      wish = (idle.rest.processor c.processor is.processor k below).1;
    }

are_quiet : (b : Beam) (t n : ℕ) (now : WorkingChips) (c : Chips) → AreIdle b t n now → IsChipsOf now c
    → AreQuiet b t n (λ k. waited now.processor k c.processor) c
are_quiet b t n now c idle is = record {
  begin = waited_none now.processor c.processor;
  lines = lines_of now c is idle.rest.lines;
  calm = λ k below. idle_is_calm (later_beam k b) (chips_at b now c k) (idle_at b t n k now c idle is below);
  turns = λ k below.
      subst (λ (irq : Interrupts). TurnsTo irq (waited now.processor k c.processor) (waited now.processor (suc k) c.processor)) (sym is.irq)
      (idle.rest.processor c.processor is.processor k below).0;
  timers_a = subst (λ (cia : CiaState). HasNoUnderflow (ticks_in t n) cia) (sym is.cia_a) idle.rest.timers_a;
  timers_b = subst (λ (cia : CiaState). HasNoUnderflow (ticks_in t n) cia) (sym is.cia_b) idle.rest.timers_b;
}

-- and the chips behind them
stand_later : (b : Beam) (t n : ℕ) (old new : WorkingChips) (c : Chips) → 0 < n → AreLater b t n old new
    → IsChipsOf old c → IsChipsOf new (later_chips b t n (λ k. waited old.processor k c.processor) c)
stand_later b t n old new c some later is =
    let not_zero : (n == 0) ≡ false = grind (arith, nat_tests, some) in
    let stands : IsChipsOf (record old {
      last = unit_on n b old.registers old.last;
      processor = new.processor;
      missed = 0;
      cia_a = ticks_on (ticks_in t n) old.cia_a;
      cia_b = ticks_on (ticks_in t n) old.cia_b;
    }) (later_chips b t n (λ k. waited old.processor k c.processor) c) = record {
      registers = is.registers;
      last = last_later n b c.registers c.units
          ∙ ap (λ (r : Registers). unit_on n b r (last_unit c.units)) is.registers
          ∙ ap (λ (last : Option ℕ). unit_on n b old.registers last) is.last;
      kinds = is.kinds;
      copper = is.copper;
      blit = is.blit;
      zero = is.zero;
      irq = is.irq;
      processor = later.processor c.processor is.processor;
      missed = else_of (n == 0) c.missed 0 not_zero;
      cia_a = ap (λ (cia : CiaState). ticks_on (ticks_in t n) cia) is.cia_a;
      cia_b = ap (λ (cia : CiaState). ticks_on (ticks_in t n) cia) is.cia_b;
      inputs = is.inputs;
    } in
    subst (λ (now : WorkingChips). IsChipsOf now (later_chips b t n (λ k. waited old.processor k c.processor) c)) (sym later.rest) stands

pub passes_quiet : (b : Beam) (t n : ℕ) (old new : WorkingChips) (c : Chips) → 0 < n → AreIdle b t n old → AreLater b t n old new
    → IsChipsOf old c → PassesQuiet b t n c new
passes_quiet b t n old new c some idle later is = record {
  processors = λ k. waited old.processor k c.processor;
  quiet = are_quiet b t n old c idle is;
  stands = stand_later b t n old new c some later is;
}

-- a turn by which the processor only waits on
waits_once : (n : ℕ) (old : WorkingChips) (c : Chips) → 0 < n → RestsFor old.irq n old.processor → IsChipsOf old c
    → TurnsTo c.irq c.processor (waited old.processor 1 c.processor)
waits_once n old c some rests is =
    subst (λ (irq : Interrupts). TurnsTo irq c.processor (waited old.processor 1 c.processor)) (sym is.irq)
    (subst (λ (p : Processor). TurnsTo old.irq p (waited old.processor 1 c.processor)) (waited_none old.processor c.processor)
    (rests c.processor is.processor 0 some).0)

pub goes_by_waiting : (word n : ℕ) (old : WorkingChips) (new : BusCpu) (c : Chips) → 0 < n → RestsFor old.irq n old.processor
    → ((p : Processor) → IsProcessorOf old.processor p → IsProcessorOf new (waited old.processor 1 p)) → IsChipsOf old c
    → turn_of c.processor ≡ Goes word → IsChipsOf (record old { processor = new }) (go_on_with word c)
goes_by_waiting word n old new c some rests waits is goes =
    let once : TurnsTo c.irq c.processor (waited old.processor 1 c.processor) = waits_once n old c some rests is in
    let turn : record c { processor = waited old.processor 1 c.processor } ≡ go_on_with word c =
    sym (once c refl).0 ∙ ap (λ t. take_turn t c) goes in
    subst (λ (after : Chips). IsChipsOf (record old { processor = new }) after) turn (record {
      registers = is.registers;
      last = is.last;
      kinds = is.kinds;
      copper = is.copper;
      blit = is.blit;
      zero = is.zero;
      irq = is.irq;
      processor = waits c.processor is.processor;
      missed = is.missed;
      cia_a = is.cia_a;
      cia_b = is.cia_b;
      inputs = is.inputs;
    })

pub none_by_waiting : (word n : ℕ) (old : WorkingChips) (c : Chips) → 0 < n → RestsFor old.irq n old.processor → IsChipsOf old c
    → turn_of c.processor ≡ Goes word → None ≡ begins_with word c
none_by_waiting word n old c some rests is goes =
    let once : TurnsTo c.irq c.processor (waited old.processor 1 c.processor) = waits_once n old c some rests is in
    sym (once c refl).1 ∙ ap (λ t. begins_by t c) goes
