-- Clocks that everybody else leaves to the processor, made at once.
use Rattle.std.proofs.Common.{◌≡◌, ℕ, Bool, true, false, not, ◌&&◌, ◌==◌, if◌then◌else◌, min, ◌+◌, List, Option, Some, None, is_some}
use Rattle.std.proofs.Common.{refl, ap, subst, sym, ◌∙◌}
use Rattle.std.proofs.lemmas.Bool.{false≢true}
use Rattle.irq_cia.specs.Interrupts.{level_of}
use Rattle.ocs_base.specs.declared.addr.Addr.{Addr}
use Rattle.ocs_base.specs.declared.beam.Beam.{Beam}
use Rattle.serial_model.specs.declared.bus.Ask.TheVariants as A
use Rattle.serial_model.specs.declared.bus.Made.TheVariants as M
use Rattle.serial_model.specs.declared.bus.ProcessorAsk.{ProcessorAsk}
use Rattle.serial_model.specs.declared.bus.ProcessorAsk.TheVariants as P
use Rattle.serial_model.specs.declared.bus.SideAsk.{SideAsk}
use Rattle.serial_model.specs.declared.processor.Turn.{Turn}
use Rattle.serial_model.specs.declared.processor.Turn.TheVariants as T
use Rattle.serial_model.specs.Bus.{ask_at, processor_ask}
use Rattle.serial_model.specs.Made.{word_of}
use Rattle.serial_model.specs.Processor.{Processor, processor_wait, slot_wish, turn_with, turn_of, go_on, stage_after}
use Rattle.serial_model.specs.Side.{IsInTime}
use Rattle.serial_model.specs.State.{Chips}
use Rattle.serial_model.specs.Turns.{take_turn, begins_by, run_chips, interrupt_of}
use Rattle.cpu_bus.specs.declared.BusCpu.{BusCpu}
use Rattle.cpu_bus.specs.Bus.{IsProcessorOf, GoesOn, wish_shown}
use Rattle.chip_set.specs.Bus.{LeavesToPlanes}
use Rattle.chip_set.specs.Chips.{WorkingChips, IsChipsOf, HasAsked, HasAccessed, kept_wish, late_ask}
use Rattle.chip_set.proofs.BusLaws.{turn_of_processor, no_turn, bus_answered}

-- the processor has the slot where the blitter does not ask
pub asked_alone : (b : Beam) (now : WorkingChips) (wish : Option ProcessorAsk) → LeavesToPlanes b now → is_some (kept_wish now) ≡ false
    → wish_shown now.processor ≡ wish → late_ask b now ≡ processor_ask wish
asked_alone b now wish leaves none is =
    turn_of_processor now false (no_turn now false (sym none) refl) refl b leaves ∙ ap (λ w. processor_ask w) is

pub with_turn : (now new : WorkingChips) (c : Chips) (turn : Turn) → turn_of c.processor ≡ turn → IsChipsOf new (take_turn turn c)
    → IsChipsOf new (run_chips c)
unfolding run_chips
with_turn now new c turn is stands = subst (λ t. IsChipsOf new (take_turn t c)) (sym is) stands

-- ---- the read of a word

abbrev pub given : ℕ → WorkingChips → WorkingChips
given word now = record now { missed = 0; processor = record now.processor { given = Some word } }

if_same : (b : Bool) (n : ℕ) → (if b && false then n else 0) ≡ 0
if_same true n = refl
if_same false n = refl

pub read_answered : (at : Addr) (b : Beam) (clx : ℕ) (memory : List ℕ) (now : WorkingChips) → LeavesToPlanes b now
    → (side : SideAsk) (c : Chips) → IsInTime b side → HasAsked b c now → A.Processor (P.Read at) ≡ ask_at side b c
    → HasAccessed side b clx c memory M.Nothing (given (word_of memory at.value) now)
read_answered at b clx memory now leaves =
    bus_answered b clx memory (A.Processor (P.Read at)) now (given (word_of memory at.value) now) (word_of memory at.value) M.Nothing leaves refl
    (λ c is. refl)
    (λ c is. record {
      registers = is.registers;
      last = is.last;
      kinds = is.kinds;
      copper = is.copper;
      blit = is.blit;
      zero = is.zero;
      irq = is.irq;
      processor = record {
        chip = is.processor.chip;
        on = is.processor.on;
        stands = is.processor.stands;
        wait = is.processor.wait;
        spent = is.processor.spent;
        given = refl;
      };
      missed = is.missed ∙ if_same (is_some (wish_shown now.processor)) (min 3 (now.missed + 1));
      cia_a = is.cia_a;
      cia_b = is.cia_b;
      inputs = is.inputs;
    }) refl

given_turn : (word : ℕ) (now : BusCpu) (p : Processor) → now.on ≡ true → IsProcessorOf (record now { given = Some word }) p
    → turn_of p ≡ T.Goes word
unfolding turn_of
given_turn word now p on is =
    ap (λ o. if o then turn_with p.given (processor_wait p) p.spent else T.Rests) (is.on ∙ on)
    ∙ ap (λ (given : Option ℕ). turn_with given (processor_wait p) p.spent) is.given

-- it asks only while it is on
on_of_wish : (on : Bool) (rest : Bool) (wish : Option ProcessorAsk) (ask : ProcessorAsk) → (if on && rest then wish else None) ≡ Some ask → on ≡ true
on_of_wish true rest wish ask is = refl
on_of_wish false rest wish ask is = absurd (false≢true (ap (λ (w : Option ProcessorAsk). is_some w) is))

-- what the word leads to does not hang on its having been given
ungiven : (word : ℕ) (now : BusCpu) (p : Processor) → IsProcessorOf (record now { given = Some word }) p
    → IsProcessorOf now (record p { given = now.given })
ungiven word now p is = record {
  chip = is.chip;
  on = is.on;
  stands = is.stands;
  wait = is.wait;
  spent = is.spent;
  given = refl;
}

abbrev pub gone : BusCpu → WorkingChips → WorkingChips
gone processor now = record now { missed = 0; processor = processor }

pub word_runs : (word : ℕ) (begins : Option ℕ) (ask : ProcessorAsk) (now : WorkingChips) (new : BusCpu) (c : Chips)
    → wish_shown now.processor ≡ Some ask → ((p : Processor) → IsProcessorOf now.processor p → GoesOn word (level_of now.irq) p begins new)
    → IsChipsOf (given word now) c → IsChipsOf (gone new now) (run_chips c)
word_runs word begins ask now new c asks goes is =
    let on : now.processor.on ≡ true = on_of_wish now.processor.on (not (now.processor.spent == 0)) (slot_wish now.processor.wait) ask asks in
    let went : GoesOn word (level_of now.irq) (record c.processor { given = now.processor.given }) begins new =
    goes (record c.processor { given = now.processor.given }) (ungiven word now.processor c.processor is.processor) in
    with_turn now (gone new now) c (T.Goes word) (given_turn word now.processor c.processor on is.processor) (record {
      registers = is.registers;
      last = is.last;
      kinds = is.kinds;
      copper = is.copper;
      blit = is.blit;
      zero = is.zero;
      irq = is.irq;
      processor = subst (λ irq. IsProcessorOf new (go_on word (level_of irq) c.processor)) (sym is.irq) went.stands;
      missed = is.missed;
      cia_a = is.cia_a;
      cia_b = is.cia_b;
      inputs = is.inputs;
    })

pub word_begins : (word : ℕ) (begins : Option ℕ) (ask : ProcessorAsk) (now : WorkingChips) (new : BusCpu) (c : Chips)
    → wish_shown now.processor ≡ Some ask → ((p : Processor) → IsProcessorOf now.processor p → GoesOn word (level_of now.irq) p begins new)
    → IsChipsOf (given word now) c → begins ≡ interrupt_of c
unfolding interrupt_of
word_begins word begins ask now new c asks goes is =
    let on : now.processor.on ≡ true = on_of_wish now.processor.on (not (now.processor.spent == 0)) (slot_wish now.processor.wait) ask asks in
    let went : GoesOn word (level_of now.irq) (record c.processor { given = now.processor.given }) begins new =
    goes (record c.processor { given = now.processor.given }) (ungiven word now.processor c.processor is.processor) in
    went.interrupt
    ∙ ap (λ irq. (stage_after word (level_of irq) c.processor).begins) (sym is.irq)
    ∙ sym (ap (λ t. begins_by t c) (given_turn word now.processor c.processor on is.processor))
