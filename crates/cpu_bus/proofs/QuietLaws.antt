-- Clocks at which the processor only waits.
use Rattle.std.proofs.Common.{◌≡◌, ◌<◌, ◌≤◌, ℕ, suc, ◌+◌, ◌-◌, Bool, true, false, ◌&&◌, if◌then◌else◌, List, [], ◌∷◌}
use Rattle.std.specs.Option.{is_some}
use Rattle.std.proofs.Common.{Option, Some, None, arith, refl, ap, ◌∙◌, sym, subst}
use Rattle.std.proofs.lemmas.Bool.{false≢true}
use Rattle.irq_cia.specs.Interrupts.{Interrupts, level_of}
use Rattle.m68k_decode.specs.declared.under.Under.{Under}
use Rattle.m68k_decode.specs.declared.under.Under.TheVariants as U
use Rattle.m68k_decode.specs.Status.{mask_of}
use Rattle.m68k_exec.specs.Stopped.{is_stopped, stands_stopped}
use Rattle.serial_model.specs.declared.processor.Wait.TheVariants as W
use Rattle.serial_model.specs.Processor.{Processor}
use Rattle.quiet_clocks.specs.QuietTurns.{RestsTo, spent_on, clocks_of, stopped}
use Rattle.quiet_clocks.proofs.QuietTurns.{waits_through, stays_off, stays_halted, stays_stopped}
use Rattle.cpu_bus.specs.declared.BusCpu.{BusCpu}
use Rattle.cpu_bus.specs.Bus.{IsProcessorOf}
use Rattle.cpu_bus.specs.Quiet.{is_timed, is_passing, RestsFor, CanCount, WaitedNone}

-- one that stays as it is
stays : (irq : Interrupts) (n : ℕ) (now : BusCpu) → is_passing now ≡ false
    → ((p : Processor) → IsProcessorOf now p → RestsTo irq p p) → RestsFor irq n now
stays irq n now none rests p s k below =
    subst (λ passing. RestsTo irq (if passing then spent_on k p else p) (if passing then spent_on (suc k) p else p)) (sym none) (rests p s)

-- one that counts clocks
counts : (irq : Interrupts) (n : ℕ) (now : BusCpu) → is_passing now ≡ true
    → ((p : Processor) → IsProcessorOf now p → (k : ℕ) → k < n → RestsTo irq (spent_on k p) (spent_on (suc k) p)) → RestsFor irq n now
counts irq n now some rests p s k below =
    subst (λ passing. RestsTo irq (if passing then spent_on k p else p) (if passing then spent_on (suc k) p else p)) (sym some) (rests p s k below)

pub rests_for_none : (irq : Interrupts) (now : BusCpu) → RestsFor irq 0 now
rests_for_none irq now p s k below = absurd (omega arith)

pub rests_off : (irq : Interrupts) (n : ℕ) (now : BusCpu) → now.on ≡ false → RestsFor irq n now
rests_off irq n now off =
    stays irq n now (ap (λ on. on && is_timed now.wait) off) (λ p s. stays_off irq p (s.on ∙ off))

not_timed : (on timed : Bool) → timed ≡ false → (on && timed) ≡ false
not_timed true timed is = is
not_timed false timed is = refl

pub rests_halted : (irq : Interrupts) (n : ℕ) (now : BusCpu) → now.given ≡ None → now.wait ≡ W.Halted → RestsFor irq n now
rests_halted irq n now none halted =
    stays irq n now (not_timed now.on (is_timed now.wait) (ap is_timed halted)) (λ p s. stays_halted irq p (s.given ∙ none) (s.wait ∙ halted))

both : (on timed : Bool) → on ≡ true → timed ≡ true → (on && timed) ≡ true
both on timed first second = ap (λ x. x && timed) first ∙ second

still_below : (here there all k : ℕ) → here ≡ there → k < all - 1 - there → here + suc k < all
still_below here there all k same below = omega arith

pub rests_timed : (irq : Interrupts) (all : ℕ) (now : BusCpu) → now.on ≡ true → now.given ≡ None → clocks_of now.wait ≡ Some all
    → is_timed now.wait ≡ true → RestsFor irq (all - 1 - now.spent) now
rests_timed irq all now on none clocks timed =
    counts irq (all - 1 - now.spent) now (both now.on (is_timed now.wait) on timed)
    (λ p s k below. waits_through irq p all k (s.on ∙ on) (s.given ∙ none) (ap clocks_of s.wait ∙ clocks) (still_below p.spent now.spent all k s.spent below))

is_stopped_under : (u : Under) → is_stopped u ≡ true → u ≡ U.Stopped
is_stopped_under U.Stopped is = refl
is_stopped_under U.Reset is = absurd (false≢true is)
is_stopped_under (U.Instruction taking) is = absurd (false≢true is)
is_stopped_under (U.Entry kind ea taking) is = absurd (false≢true is)
is_stopped_under U.Halted is = absurd (false≢true is)

stopped_so : (u : Under) (ws : List ℕ) → true ≡ stands_stopped u ws → (u ≡ U.Stopped) × (ws ≡ [])
stopped_so u [] is = (is_stopped_under u (sym is), refl)
stopped_so u (w ∷ ws) is = absurd (false≢true (sym is))

-- a processor is the stopped one where its parts are
same_stopped : (p : Processor) → p.on ≡ true → p.under ≡ U.Stopped → p.answers ≡ [] → p.spent ≡ 0 → p.given ≡ None → p ≡ stopped p.chip p.regs
same_stopped p on under answers spent given =
    ap (λ x. record p { on = x }) on
    ∙ ap (λ x. record p { on = true; under = x }) under
    ∙ ap (λ x. record p { on = true; under = U.Stopped; answers = x }) answers
    ∙ ap (λ x. record p { on = true; under = U.Stopped; answers = []; spent = x }) spent
    ∙ ap (λ x. record p { on = true; under = U.Stopped; answers = []; spent = 0; given = x }) given

pub rests_stopped : (irq : Interrupts) (n level mask : ℕ) (now : BusCpu) → now.on ≡ true → now.given ≡ None → now.spent ≡ 0 → is_timed now.wait ≡ false
    → ((p : Processor) → IsProcessorOf now p → true ≡ stands_stopped p.under p.answers) → ((p : Processor) → IsProcessorOf now p → mask ≡ mask_of p.regs.sr)
    → level ≡ level_of irq → level ≤ mask → RestsFor irq n now
rests_stopped irq n level mask now on none spent untimed stands masks is below =
    stays irq n now (not_timed now.on (is_timed now.wait) untimed)
    (λ p s.
    let at = stopped_so p.under p.answers (stands p s) in
    let same = same_stopped p (s.on ∙ on) at.0 at.1 (s.spent ∙ spent) (s.given ∙ none) in
    let so : level_of irq ≤ mask_of p.regs.sr = subst (λ l. l ≤ mask_of p.regs.sr) is (subst (λ m. level ≤ m) (masks p s) below) in
    subst (λ q. RestsTo irq q q) (sym same) (stays_stopped irq p.chip p.regs so))

-- ---- room for the count

pub no_room : (n : ℕ) (now : BusCpu) → is_passing now ≡ false → CanCount n now
no_room n now none passing some = absurd (false≢true (sym none ∙ passing))

same_if : (passing : Bool) (p : Processor) → (if passing then spent_on 0 p else p) ≡ p
same_if true p = let e : p.spent + 0 ≡ p.spent = omega arith in ap (λ n. record p { spent = n }) e
same_if false p = refl

pub waited_none : WaitedNone
waited_none now p = same_if (is_passing now) p

pub rests_as_left : (irq : Interrupts) (n m all : ℕ) (now : BusCpu) → n ≡ m - now.spent → m ≡ all - 1 → now.on ≡ true → now.given ≡ None
    → clocks_of now.wait ≡ Some all → is_timed now.wait ≡ true → RestsFor irq n now
rests_as_left irq n m all now is most on none clocks timed =
    subst (λ k. RestsFor irq k now) (sym (is ∙ ap (λ x. x - now.spent) most)) (rests_timed irq all now on none clocks timed)

pub none_given : (given : Option ℕ) → is_some given ≡ false → given ≡ None
none_given None none = refl
none_given (Some word) none = absurd (false≢true (sym none))
