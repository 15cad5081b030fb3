-- The processor's turn made at once with what becomes of the slot.
use Rattle.std.proofs.Common.{◌≡◌, ◌⊎◌, inl, inr, ℕ, Bool, true, false, not, ◌&&◌, ◌==◌, ◌+◌, min, nat_le, if◌then◌else◌, Option, Some, None, is_some}
use Rattle.std.proofs.Common.{refl, ap, subst, sym, ◌∙◌, List}
use Rattle.ocs_base.specs.declared.beam.Beam.{Beam}
use Rattle.serial_model.specs.Bus.{ask_at}
use Rattle.serial_model.specs.declared.bus.Made.TheVariants as M
use Rattle.serial_model.specs.declared.bus.SideAsk.{SideAsk}
use Rattle.serial_model.specs.declared.fetch.PlaneAsk.{PlaneAsk}
use Rattle.serial_model.specs.Side.{IsInTime}
use Rattle.chip_set.specs.Bus.{LeavesToPlanes}
use Rattle.chip_set.proofs.BusLaws.{bus_answered}
use Rattle.std.proofs.lemmas.Bool.{false≢true}
use Rattle.serial_model.specs.declared.bus.Ask.{Ask}
use Rattle.serial_model.specs.declared.bus.Ask.TheVariants as A
use Rattle.serial_model.specs.declared.bus.ProcessorAsk.{ProcessorAsk}
use Rattle.serial_model.specs.declared.processor.Turn.{Turn}
use Rattle.serial_model.specs.declared.processor.Turn.TheVariants as T
use Rattle.serial_model.specs.declared.processor.Wait.{Wait}
use Rattle.serial_model.specs.declared.processor.Wait.TheVariants as W
use Rattle.serial_model.specs.Bus.{is_processor_ask, missed_after}
use Rattle.serial_model.specs.Processor.{Processor, processor_wait, slot_wish, turn_with, turn_of}
use Rattle.serial_model.specs.State.{Chips}
use Rattle.serial_model.specs.Turns.{begins_by, run_chips, interrupt_of, go_on_with, begins_with}
use Rattle.cpu_bus.specs.declared.BusCpu.{BusCpu}
use Rattle.cpu_bus.specs.declared.TurnBeside.{TurnBeside}
use Rattle.cpu_bus.specs.declared.TurnBeside.TheVariants as B
use Rattle.cpu_bus.specs.Beside.{turn_beside_of, turn_beside_with, turn_beside_by, BeginsAnew}
use Rattle.cpu_bus.specs.Bus.{IsProcessorOf, is_slot, wish_shown}
use Rattle.chip_set.specs.Beside.{WaitsBeside, missing}
use Rattle.chip_set.specs.Chips.{WorkingChips, IsChipsOf, HasAsked, HasAccessed}
use Rattle.chip_set.proofs.AheadLaws.{with_turn}

-- ---- which of the turns beside it is

abbrev is_waiting : TurnBeside → Bool
is_waiting (B.Waits spent) = true
is_waiting B.Asks = false
is_waiting B.GoesOn = false
is_waiting B.Other = false

abbrev is_asking : TurnBeside → Bool
is_asking (B.Waits spent) = false
is_asking B.Asks = true
is_asking B.GoesOn = false
is_asking B.Other = false

abbrev is_going : TurnBeside → Bool
is_going (B.Waits spent) = false
is_going B.Asks = false
is_going B.GoesOn = true
is_going B.Other = false

abbrev spent_by : TurnBeside → ℕ
spent_by (B.Waits spent) = spent
spent_by B.Asks = 0
spent_by B.GoesOn = 0
spent_by B.Other = 0

-- ---- what it makes, by what is kept of the processor

abbrev turn_now : Bool → Option ℕ → Wait → ℕ → Turn
turn_now on given wait spent = if on then turn_with given wait spent else T.Rests

abbrev wish_now : Bool → Wait → ℕ → Option ProcessorAsk
wish_now on wait spent = if on && not (spent == 0) then slot_wish wait else None

abbrev beside_now : Bool → Option ℕ → Wait → ℕ → TurnBeside
beside_now on given wait spent = if on then turn_beside_with given wait spent else B.Waits spent

record WaitsOn (on : Bool) (given : Option ℕ) (wait : Wait) (spent next : ℕ) : Type 0 where
  turn : (turn_now on given wait spent ≡ T.Waits next) ⊎ ((turn_now on given wait spent ≡ T.Rests) × (spent ≡ next))
  wish : wish_now on wait spent ≡ None

none_of_idle : (b : Bool) → (if b then slot_wish W.Unmapped else None) ≡ None
none_of_idle true = refl
none_of_idle false = refl

first_of_slot : (ask : ProcessorAsk) (b : Bool) (next : ℕ) → (if b then B.Waits 1 else B.Asks) ≡ B.Waits next
    → (1 ≡ next) × ((if not b then Some ask else None) ≡ None)
first_of_slot ask true next is = (ap spent_by is, refl)
first_of_slot ask false next is = absurd (false≢true (ap is_waiting is))

idles_on : (b : Bool) (spent next : ℕ) → (if b then B.GoesOn else B.Waits (spent + 1)) ≡ B.Waits next
    → (if b then T.Goes 0 else T.Waits (spent + 1)) ≡ T.Waits next
idles_on true spent next is = absurd (false≢true (ap is_waiting is))
idles_on false spent next is = ap (λ n. T.Waits n) (ap spent_by is)

waits_on : (on : Bool) (given : Option ℕ) (wait : Wait) (spent next : ℕ) → beside_now on given wait spent ≡ B.Waits next
    → WaitsOn on given wait spent next
waits_on false given wait spent next is = record { turn = inr (refl, ap spent_by is); wish = refl }
waits_on true (Some word) wait spent next is = absurd (false≢true (ap is_waiting is))
waits_on true None (W.Slot ask) spent next is =
    let first = first_of_slot ask (spent == 0) next is in
    record { turn = inl (ap (λ n. T.Waits n) first.0); wish = first.1 }
waits_on true None (W.Cia cia reg byte) spent next is = absurd (false≢true (ap is_waiting is))
waits_on true None W.Unmapped spent next is = absurd (false≢true (ap is_waiting is))
waits_on true None (W.Idle clocks) spent next is =
    record { turn = inl (idles_on (nat_le clocks (spent + 1)) spent next is); wish = none_of_idle (not (spent == 0)) }
waits_on true None W.Halted spent next is = absurd (false≢true (ap is_waiting is))

record AsksOn (on : Bool) (given : Option ℕ) (wait : Wait) (spent : ℕ) : Type 0 where
  turn : turn_now on given wait spent ≡ T.Waits 1
  wish : is_some (wish_now on wait spent) ≡ true

later_of_slot : (ask : ProcessorAsk) (b : Bool) → (if b then B.Waits 1 else B.Asks) ≡ B.Asks → is_some (if not b then Some ask else None) ≡ true
later_of_slot ask true is = absurd (false≢true (ap is_asking is))
later_of_slot ask false is = refl

no_asking : (b : Bool) (n : ℕ) → is_asking (if b then B.GoesOn else B.Waits n) ≡ false
no_asking true n = refl
no_asking false n = refl

asks_on : (on : Bool) (given : Option ℕ) (wait : Wait) (spent : ℕ) → beside_now on given wait spent ≡ B.Asks → AsksOn on given wait spent
asks_on false given wait spent is = absurd (false≢true (ap is_asking is))
asks_on true (Some word) wait spent is = absurd (false≢true (ap is_asking is))
asks_on true None (W.Slot ask) spent is = record { turn = refl; wish = later_of_slot ask (spent == 0) is }
asks_on true None (W.Cia cia reg byte) spent is = absurd (false≢true (ap is_asking is))
asks_on true None W.Unmapped spent is = absurd (false≢true (ap is_asking is))
asks_on true None (W.Idle clocks) spent is =
    absurd (false≢true (sym (no_asking (nat_le clocks (spent + 1)) (spent + 1)) ∙ ap is_asking is))
asks_on true None W.Halted spent is = absurd (false≢true (ap is_asking is))

record IsOver (on : Bool) (given : Option ℕ) (wait : Wait) (spent : ℕ) : Type 0 where
  turn : turn_now on given wait spent ≡ T.Goes 0
  wish : wish_now on wait spent ≡ None

over_of_idle : (b : Bool) (n : ℕ) → (if b then B.GoesOn else B.Waits n) ≡ B.GoesOn → (if b then T.Goes 0 else T.Waits n) ≡ T.Goes 0
over_of_idle true n is = refl
over_of_idle false n is = absurd (false≢true (ap is_going is))

no_going : (b : Bool) → is_going (if b then B.Waits 1 else B.Asks) ≡ false
no_going true = refl
no_going false = refl

is_over : (on : Bool) (given : Option ℕ) (wait : Wait) (spent : ℕ) → beside_now on given wait spent ≡ B.GoesOn → IsOver on given wait spent
is_over false given wait spent is = absurd (false≢true (ap is_going is))
is_over true (Some word) wait spent is = absurd (false≢true (ap is_going is))
is_over true None (W.Slot ask) spent is = absurd (false≢true (sym (no_going (spent == 0)) ∙ ap is_going is))
is_over true None (W.Cia cia reg byte) spent is = absurd (false≢true (ap is_going is))
is_over true None W.Unmapped spent is = absurd (false≢true (ap is_going is))
is_over true None (W.Idle clocks) spent is =
    record { turn = over_of_idle (nat_le clocks (spent + 1)) (spent + 1) is; wish = none_of_idle (not (spent == 0)) }
is_over true None W.Halted spent is = absurd (false≢true (ap is_going is))

-- ---- the chips

-- the turn of the processor that it stands for
turn_of_kept : (now : BusCpu) (p : Processor) (turn : Turn) → IsProcessorOf now p → turn_now now.on now.given now.wait now.spent ≡ turn
    → turn_of p ≡ turn
unfolding turn_of
turn_of_kept now p turn is made =
    ap (λ on. turn_now on p.given (processor_wait p) p.spent) is.on
    ∙ ap (λ (given : Option ℕ). turn_now now.on given (processor_wait p) p.spent) is.given
    ∙ ap (λ (wait : Wait). turn_now now.on now.given wait p.spent) is.wait
    ∙ ap (λ spent. turn_now now.on now.given now.wait spent) is.spent ∙ made

-- where the processor does not ask nothing is missed
pub none_missed : (ask : Ask) (now : WorkingChips) → wish_shown now.processor ≡ None → missing ask now ≡ record now { missed = 0 }
none_missed ask now none = ap (λ wish. record now { missed = missed_after wish ask now.missed }) none

-- nobody had the slot of a clock
pub nobody_answered : (b : Beam) (clx : ℕ) (memory : List ℕ) (now : WorkingChips) → LeavesToPlanes b now
    → (side : SideAsk) (c : Chips) → IsInTime b side → HasAsked b c now → A.Free ≡ ask_at side b c
    → HasAccessed side b clx c memory M.Nothing (missing A.Free now)
nobody_answered b clx memory now leaves = bus_answered b clx memory A.Free now (missing A.Free now) 0 M.Nothing leaves refl refl refl refl

-- or a plane
pub plane_answered : (b : Beam) (clx : ℕ) (memory : List ℕ) (ask : PlaneAsk) (now : WorkingChips) → LeavesToPlanes b now
    → (side : SideAsk) (c : Chips) → IsInTime b side → HasAsked b c now → A.Plane ask ≡ ask_at side b c
    → HasAccessed side b clx c memory (M.Plane ask.plane ask.at) (missing (A.Plane ask) now)
plane_answered b clx memory ask now leaves =
    bus_answered b clx memory (A.Plane ask) now (missing (A.Plane ask) now) 0 (M.Plane ask.plane ask.at) leaves refl tt refl refl

-- one that waits on with this many clocks
abbrev pub waited_on : ℕ → ℕ → WorkingChips → WorkingChips
waited_on missed spent now = record now { missed = missed; processor = record now.processor { spent = spent } }

waits_then : (ask : Ask) (missed spent : ℕ) (now : WorkingChips) (c : Chips) → turn_of c.processor ≡ T.Waits spent
    → missed_after (wish_shown now.processor) ask now.missed ≡ missed → IsChipsOf (missing ask now) c
    → IsChipsOf (waited_on missed spent now) (run_chips c)
waits_then ask missed spent now c turn counted is =
    with_turn now (waited_on missed spent now) c (T.Waits spent) turn (record {
      registers = is.registers;
      last = is.last;
      kinds = is.kinds;
      copper = is.copper;
      blit = is.blit;
      zero = is.zero;
      irq = is.irq;
      processor = record {
        chip = is.processor.chip;
        on = is.processor.on;
        stands = is.processor.stands;
        wait = is.processor.wait;
        spent = refl;
        given = is.processor.given;
      };
      missed = is.missed ∙ counted;
      cia_a = is.cia_a;
      cia_b = is.cia_b;
      inputs = is.inputs;
    })

rests_then : (ask : Ask) (missed spent : ℕ) (now : WorkingChips) (c : Chips) → turn_of c.processor ≡ T.Rests → now.processor.spent ≡ spent
    → missed_after (wish_shown now.processor) ask now.missed ≡ missed → IsChipsOf (missing ask now) c
    → IsChipsOf (waited_on missed spent now) (run_chips c)
rests_then ask missed spent now c turn same counted is =
    with_turn now (waited_on missed spent now) c T.Rests turn (record {
      registers = is.registers;
      last = is.last;
      kinds = is.kinds;
      copper = is.copper;
      blit = is.blit;
      zero = is.zero;
      irq = is.irq;
      processor = record {
        chip = is.processor.chip;
        on = is.processor.on;
        stands = is.processor.stands;
        wait = is.processor.wait;
        spent = is.processor.spent ∙ same;
        given = is.processor.given;
      };
      missed = is.missed ∙ counted;
      cia_a = is.cia_a;
      cia_b = is.cia_b;
      inputs = is.inputs;
    })

none_begins : (c : Chips) (turn : Turn) → turn_of c.processor ≡ turn → None ≡ begins_by turn c → None ≡ interrupt_of c
unfolding interrupt_of
none_begins c turn is none = none ∙ sym (ap (λ t. begins_by t c) is)

waits_by : (ask : Ask) (missed spent : ℕ) (now : WorkingChips) (c : Chips) → IsChipsOf (missing ask now) c
    → missed_after (wish_shown now.processor) ask now.missed ≡ missed
    → ((turn_now now.processor.on now.processor.given now.processor.wait now.processor.spent ≡ T.Waits spent)
    ⊎ ((turn_now now.processor.on now.processor.given now.processor.wait now.processor.spent ≡ T.Rests) × (now.processor.spent ≡ spent)))
    → IsChipsOf (waited_on missed spent now) (run_chips c) × (None ≡ interrupt_of c)
waits_by ask missed spent now c is counted (inl turn) =
    let kept : turn_of c.processor ≡ T.Waits spent = turn_of_kept now.processor c.processor (T.Waits spent) is.processor turn in
    (waits_then ask missed spent now c kept counted is, none_begins c (T.Waits spent) kept refl)
waits_by ask missed spent now c is counted (inr rests) =
    let kept : turn_of c.processor ≡ T.Rests = turn_of_kept now.processor c.processor T.Rests is.processor rests.0 in
    (rests_then ask missed spent now c kept rests.1 counted is, none_begins c T.Rests kept refl)

pub waits_beside : (spent : ℕ) (now : WorkingChips) → turn_beside_of now.processor ≡ B.Waits spent → WaitsBeside now (waited_on 0 spent now)
waits_beside spent now is =
    let on : WaitsOn now.processor.on now.processor.given now.processor.wait now.processor.spent spent =
    waits_on now.processor.on now.processor.given now.processor.wait now.processor.spent spent is in
    let none : (ask : Ask) → missed_after (wish_shown now.processor) ask now.missed ≡ 0 =
    λ ask. ap (λ wish. missed_after wish ask now.missed) on.wish in
    record {
      runs = λ ask other c stands. (waits_by ask 0 spent now c stands (none ask) on.turn).0;
      silent = λ ask other c stands. (waits_by ask 0 spent now c stands (none ask) on.turn).1;
      kept = refl;
    }

missed_of : (some : Bool) (other : Bool) (missed : ℕ) → some ≡ true → other ≡ false
    → (if some && not other then min 3 (missed + 1) else 0) ≡ min 3 (missed + 1)
missed_of true false missed is none = refl
missed_of true true missed is none = absurd (false≢true (sym none))
missed_of false other missed is none = absurd (false≢true is)

pub asks_beside : (missed : ℕ) (now : WorkingChips) → turn_beside_of now.processor ≡ B.Asks → missed ≡ min 3 (now.missed + 1)
    → WaitsBeside now (waited_on missed 1 now)
asks_beside missed now is counted =
    let on : AsksOn now.processor.on now.processor.given now.processor.wait now.processor.spent =
    asks_on now.processor.on now.processor.given now.processor.wait now.processor.spent is in
    let more : (ask : Ask) → is_processor_ask ask ≡ false → missed_after (wish_shown now.processor) ask now.missed ≡ missed =
    λ ask other. missed_of (is_some (wish_shown now.processor)) (is_processor_ask ask) now.missed on.wish other ∙ sym counted in
    record {
      runs = λ ask other c stands. (waits_by ask missed 1 now c stands (more ask other) (inl on.turn)).0;
      silent = λ ask other c stands. (waits_by ask missed 1 now c stands (more ask other) (inl on.turn)).1;
      kept = refl;
    }

-- ---- the end of idle clocks

pub over_turn : (now : WorkingChips) (c : Chips) → turn_beside_of now.processor ≡ B.GoesOn → IsChipsOf (missing A.Free now) c
    → turn_of c.processor ≡ T.Goes 0
over_turn now c is stands =
    turn_of_kept now.processor c.processor (T.Goes 0) stands.processor
    (is_over now.processor.on now.processor.given now.processor.wait now.processor.spent is).turn

pub over_stands : (now : WorkingChips) (c : Chips) → turn_beside_of now.processor ≡ B.GoesOn → IsChipsOf (missing A.Free now) c
    → IsChipsOf (record now { missed = 0 }) c
over_stands now c is stands =
    subst (λ (x : WorkingChips). IsChipsOf x c)
    (none_missed A.Free now (is_over now.processor.on now.processor.given now.processor.wait now.processor.spent is).wish) stands

pub over_runs : (c : Chips) (new : WorkingChips) → turn_of c.processor ≡ T.Goes 0 → IsChipsOf new (go_on_with 0 c) → IsChipsOf new (run_chips c)
over_runs c new is stands = with_turn new new c (T.Goes 0) is stands

pub over_begins : (c : Chips) → turn_of c.processor ≡ T.Goes 0 → begins_with 0 c ≡ interrupt_of c
unfolding interrupt_of
over_begins c is = sym (ap (λ t. begins_by t c) is)

-- ---- what it is beside another, for the machine

slot_first : (wait : Wait) (ask : ProcessorAsk) → slot_wish wait ≡ Some ask → turn_beside_by wait 0 ≡ B.Waits 1
slot_first (W.Slot own) ask is = refl
slot_first (W.Cia cia reg byte) ask is = absurd (false≢true (ap (λ (w : Option ProcessorAsk). is_some w) is))
slot_first W.Unmapped ask is = absurd (false≢true (ap (λ (w : Option ProcessorAsk). is_some w) is))
slot_first (W.Idle clocks) ask is = absurd (false≢true (ap (λ (w : Option ProcessorAsk). is_some w) is))
slot_first W.Halted ask is = absurd (false≢true (ap (λ (w : Option ProcessorAsk). is_some w) is))

-- where it has just begun to wait for a slot the first clock only passes
pub first_waits : (now : BusCpu) (ask : ProcessorAsk) → BeginsAnew now → slot_wish now.wait ≡ Some ask → turn_beside_of now ≡ B.Waits 1
first_waits now ask anew wish =
    ap (λ on. beside_now on now.given now.wait now.spent) anew.on
    ∙ ap (λ (given : Option ℕ). turn_beside_with given now.wait now.spent) anew.given
    ∙ ap (λ spent. turn_beside_by now.wait spent) anew.spent ∙ slot_first now.wait ask wish

-- what it asks for in its slot
pub waits_wish : (now : BusCpu) (spent : ℕ) → turn_beside_of now ≡ B.Waits spent → wish_shown now ≡ None
waits_wish now spent is = (waits_on now.on now.given now.wait now.spent spent is).wish

pub over_wish : (now : BusCpu) → turn_beside_of now ≡ B.GoesOn → wish_shown now ≡ None
over_wish now is = (is_over now.on now.given now.wait now.spent is).wish

shown_of : (b : Bool) (wish : Option ProcessorAsk) → is_some (if b then wish else None) ≡ true → (if b then wish else None) ≡ wish
shown_of true wish is = refl
shown_of false wish is = absurd (false≢true is)

pub asks_wish : (now : BusCpu) → turn_beside_of now ≡ B.Asks → wish_shown now ≡ slot_wish now.wait
asks_wish now is =
    shown_of (now.on && not (now.spent == 0)) (slot_wish now.wait) (asks_on now.on now.given now.wait now.spent is).wish

some_slot : (wait : Wait) → is_some (slot_wish wait) ≡ true → is_slot wait ≡ true
some_slot (W.Slot ask) is = refl
some_slot (W.Cia cia reg byte) is = absurd (false≢true is)
some_slot W.Unmapped is = absurd (false≢true is)
some_slot (W.Idle clocks) is = absurd (false≢true is)
some_slot W.Halted is = absurd (false≢true is)

pub asks_slot : (now : BusCpu) → turn_beside_of now ≡ B.Asks → is_slot now.wait ≡ true
asks_slot now is =
    some_slot now.wait (sym (ap (λ (w : Option ProcessorAsk). is_some w) (asks_wish now is))
    ∙ (asks_on now.on now.given now.wait now.spent is).wish)
