-- The processor's turns at clocks at which it makes no access.
use Rattle.std.proofs.Common.{◌≡◌, ◌<◌, ◌≤◌, ℕ, suc, ◌+◌, ◌==◌, true, false, not, ◌&&◌, nat_le, nat_lt, if◌then◌else◌, [], Option, Some, None}
use Rattle.std.proofs.Common.{unwrap_or, arith, refl, ap, ◌∙◌, sym, subst}
use Rattle.std.proofs.lemmas.Bool.Decides.{nat_tests}
use Rattle.std.proofs.lemmas.Option.{none-some}
use Rattle.irq_cia.specs.Interrupts.{Interrupts, level_of}
use Rattle.m68k_decode.specs.declared.regs.CpuRegs.{CpuRegs}
use Rattle.m68k_decode.specs.declared.under.Under.TheVariants as U
use Rattle.m68k_decode.specs.Status.{mask_of}
use Rattle.m68k_decode.specs.Walk.{Stage, program, next, begin, is_traced, boundary, answered, advance, stage}
use Rattle.ocs_base.specs.declared.chip_size.ChipSize.{ChipSize}
use Rattle.serial_model.specs.declared.processor.Turn.{Turn}
use Rattle.serial_model.specs.declared.processor.Turn.TheVariants as T
use Rattle.serial_model.specs.declared.processor.Wait.{Wait}
use Rattle.serial_model.specs.declared.processor.Wait.TheVariants as W
use Rattle.serial_model.specs.Processor.{Processor, processor_wait, processor_wish, slot_wish, wait_of, after_clocks, turn_by, turn_with, turn_of}
use Rattle.serial_model.specs.State.{Chips}
use Rattle.serial_model.specs.Turns.{take_turn, begins_by}
use Rattle.quiet_clocks.specs.QuietClock.{TurnsTo}
use Rattle.quiet_clocks.specs.QuietTurns.{spent_on, clocks_of, WaitsThrough, StaysOff, StaysHalted, stopped, StaysStopped, LosesSlot}
use Rattle.quiet_clocks.proofs.PlainClock.{else_of}
use Rattle.quiet_clocks.proofs.QuietClock.{if_either}

-- what a turn that only counts, or none, makes
by_waiting : (irq : Interrupts) (p : Processor) (n : ℕ) → turn_of p ≡ T.Waits n → TurnsTo irq p (record p { spent = n })
by_waiting irq p n is c same =
    (ap (λ turn. take_turn turn (record c { processor = p })) is, ap (λ turn. begins_by turn (record c { processor = p })) is)

by_resting : (irq : Interrupts) (p : Processor) → turn_of p ≡ T.Rests → TurnsTo irq p p
by_resting irq p is c same =
    (ap (λ turn. take_turn turn (record c { processor = p })) is, ap (λ turn. begins_by turn (record c { processor = p })) is)

-- it asks for no slot where it waits for none
no_wish : (p : Processor) → slot_wish (processor_wait p) ≡ None → processor_wish p ≡ None
unfolding processor_wish
no_wish p none = if_either (p.on && not (p.spent == 0)) (slot_wish (processor_wait p)) None none

wait_wish : (wait : Wait) (all : ℕ) → clocks_of wait ≡ Some all → slot_wish wait ≡ None
wait_wish (W.Slot ask) all is = absurd (none-some all is)
wait_wish (W.Cia cia reg byte) all is = refl
wait_wish W.Unmapped all is = refl
wait_wish (W.Idle clocks) all is = refl
wait_wish W.Halted all is = refl

-- a turn of one that is on and has made no access
turn_waiting : (p : Processor) → p.on ≡ true → p.given ≡ None → turn_of p ≡ turn_by (processor_wait p) p.spent
unfolding turn_of
turn_waiting p on none =
    ap (λ o. if o then turn_with p.given (processor_wait p) p.spent else T.Rests) on
    ∙ ap (λ (given : Option ℕ). turn_with given (processor_wait p) p.spent) none

passes : (clocks all spent : ℕ) (over : Turn) → Some clocks ≡ Some all → spent + 1 < all → after_clocks clocks spent over ≡ T.Waits (spent + 1)
passes clocks all spent over is below =
    let same : clocks ≡ all = ap (λ (n : Option ℕ). unwrap_or n 0) is in
    let more : nat_le clocks (spent + 1) ≡ false = grind (arith, nat_tests) in
    else_of (nat_le clocks (spent + 1)) over (T.Waits (spent + 1)) more

turn_passes : (wait : Wait) (all spent : ℕ) → clocks_of wait ≡ Some all → spent + 1 < all → turn_by wait spent ≡ T.Waits (spent + 1)
turn_passes (W.Slot ask) all spent is below = absurd (none-some all is)
turn_passes (W.Cia cia reg byte) all spent is below = passes 5 all spent (T.Cia cia reg byte) is below
turn_passes W.Unmapped all spent is below = passes 2 all spent (T.Goes 0) is below
turn_passes (W.Idle clocks) all spent is below = passes clocks all spent (T.Goes 0) is below
turn_passes W.Halted all spent is below = absurd (none-some all is)

pub waits_through : WaitsThrough
waits_through irq p all k on none is below =
    let e : p.spent + k + 1 ≡ p.spent + suc k = omega arith in
    let turn : turn_of (spent_on k p) ≡ T.Waits (p.spent + suc k) =
    turn_waiting (spent_on k p) on none ∙ turn_passes (processor_wait p) all (p.spent + k) is (omega arith) ∙ ap (λ n. T.Waits n) e in
    (by_waiting irq (spent_on k p) (p.spent + suc k) turn, no_wish (spent_on k p) (wait_wish (processor_wait p) all is))

turn_off : (p : Processor) → p.on ≡ false → turn_of p ≡ T.Rests
unfolding turn_of
turn_off p off = else_of p.on (turn_with p.given (processor_wait p) p.spent) T.Rests off

wish_off : (p : Processor) → p.on ≡ false → processor_wish p ≡ None
unfolding processor_wish
wish_off p off = ap (λ on. if on && not (p.spent == 0) then slot_wish (processor_wait p) else None) off

pub stays_off : StaysOff
stays_off irq p off = (by_resting irq p (turn_off p off), wish_off p off)

turn_halted : (p : Processor) → p.given ≡ None → processor_wait p ≡ W.Halted → turn_of p ≡ T.Rests
unfolding turn_of
turn_halted p none is =
    ap (λ (given : Option ℕ). if p.on then turn_with given (processor_wait p) p.spent else T.Rests) none
    ∙ ap (λ (wait : Wait). if p.on then turn_by wait p.spent else T.Rests) is
    ∙ if_either p.on T.Rests T.Rests refl

pub stays_halted : StaysHalted
stays_halted irq p none is =
    (by_resting irq p (turn_halted p none is), no_wish p (ap (λ (wait : Wait). slot_wish wait) is))

-- a clock of STOP is an end, after which it stays under way while no interrupt begins
stopped_stage : (regs : CpuRegs) (level : ℕ) → level ≤ mask_of regs.sr → advance regs U.Stopped [] 0 level ≡ stage regs U.Stopped []
unfolding program begin is_traced boundary answered advance
stopped_stage regs level low =
    let not_above : nat_lt (mask_of regs.sr) level ≡ false = grind (arith, nat_tests) in
    else_of (nat_lt (mask_of regs.sr) level) _ _ not_above

stopped_turn : (chip : ChipSize) (regs : CpuRegs) → turn_of (stopped chip regs) ≡ T.Goes 0
unfolding program next wait_of turn_of
stopped_turn chip regs = refl

goes_on_stopped : (c : Chips) (chip : ChipSize) (regs : CpuRegs) → level_of c.irq ≤ mask_of regs.sr
    → take_turn (T.Goes 0) (record c { processor = stopped chip regs }) ≡ record c { processor = stopped chip regs }
goes_on_stopped c chip regs low =
    ap (λ (s : Stage). record c {
      processor = record { chip = chip; on = true; regs = s.regs; under = s.under; answers = s.answers; spent = 0; given = None };
    }) (stopped_stage regs (level_of c.irq) low)

begins_none : (c : Chips) (chip : ChipSize) (regs : CpuRegs) → level_of c.irq ≤ mask_of regs.sr
    → begins_by (T.Goes 0) (record c { processor = stopped chip regs }) ≡ None
begins_none c chip regs low = ap (λ (s : Stage). s.begins) (stopped_stage regs (level_of c.irq) low)

stays_at : (irq : Interrupts) (chip : ChipSize) (regs : CpuRegs) → level_of irq ≤ mask_of regs.sr → TurnsTo irq (stopped chip regs) (stopped chip regs)
stays_at irq chip regs low c same =
    let level : level_of c.irq ≤ mask_of regs.sr = subst (λ i. level_of i ≤ mask_of regs.sr) (sym same) low in (
      ap (λ turn. take_turn turn (record c { processor = stopped chip regs })) (stopped_turn chip regs) ∙ goes_on_stopped c chip regs level,
      ap (λ turn. begins_by turn (record c { processor = stopped chip regs })) (stopped_turn chip regs) ∙ begins_none c chip regs level,
    )

wish_stopped : (chip : ChipSize) (regs : CpuRegs) → processor_wish (stopped chip regs) ≡ None
unfolding processor_wish
wish_stopped chip regs = refl

pub stays_stopped : StaysStopped
stays_stopped irq chip regs low = (stays_at irq chip regs low, wish_stopped chip regs)

pub loses_slot : LosesSlot
loses_slot irq p ask on none is =
    by_waiting irq p 1 (turn_waiting p on none ∙ ap (λ (wait : Wait). turn_by wait p.spent) is)
