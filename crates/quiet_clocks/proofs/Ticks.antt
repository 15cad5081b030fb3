-- Ticks of a CIA's timers without an underflow.
use Rattle.std.proofs.Common.{◌≡◌, ◌≤◌, ℕ, zero, suc, ◌+◌, ◌-◌, Bool, true, false, if◌then◌else◌, arith, refl, ap, ◌∙◌, sym}
use Rattle.std.proofs.lemmas.Bool.Decides.{nat_tests}
use Rattle.irq_cia.specs.Cia.{after_tick}
use Rattle.irq_cia.specs.Icr.{with_flag}
use Rattle.irq_cia.specs.Timer.{counts_as_a, counts_as_b, is_underflow, after_underflow, after_count}
use Rattle.irq_cia.specs.declared.cia.CiaState.{CiaState}
use Rattle.irq_cia.specs.declared.timer.Timer.{Timer}
use Rattle.irq_cia.specs.Ticks.{is_far, counts_b, HasNoUnderflow, lowered, ticks_on}
use Rattle.quiet_clocks.specs.Ticks.{after_ticks}
use Rattle.quiet_clocks.specs.Ticks.{TicksInClosedForm, TicksTwice, FewerTicks, TicksOfTwo, TickMore, TickLess}

-- one timer
lowered_none : (counts : Bool) (t : Timer) → lowered 0 counts t ≡ t
lowered_none true t =
    let e : t.counter - 0 ≡ t.counter = omega arith in
    ap (λ k. record t { counter = k }) e
lowered_none false t = refl

lowered_twice : (m n : ℕ) (counts : Bool) (t : Timer) → lowered n counts (lowered m counts t) ≡ lowered (m + n) counts t
lowered_twice m n true t =
    let e : t.counter - m - n ≡ t.counter - (m + n) = omega arith in
    ap (λ k. record t { counter = k }) e
lowered_twice m n false t = refl

far_less : (m n : ℕ) (counts : Bool) (t : Timer) → m ≤ n → is_far counts n t ≡ true → is_far counts m t ≡ true
far_less m n true t le far = grind (arith, nat_tests)
far_less m n false t le far = refl

no_underflow : (n : ℕ) (counts : Bool) (t : Timer) → is_far counts (suc n) t ≡ true → is_underflow counts (lowered n counts t) ≡ false
no_underflow n true t far = grind (arith, nat_tests)
no_underflow n false t far = refl

counted : (n : ℕ) (counts : Bool) (t : Timer)
    → (if counts then record (lowered n counts t) { counter = (lowered n counts t).counter - 1 } else lowered n counts t) ≡ lowered (suc n) counts t
counted n true t =
    let e : t.counter - n - 1 ≡ t.counter - suc n = omega arith in
    ap (λ k. record t { counter = k }) e
counted n false t = refl

count_more : (n : ℕ) (counts : Bool) (t : Timer) → is_far counts (suc n) t ≡ true → after_count counts (lowered n counts t) ≡ lowered (suc n) counts t
count_more n counts t far =
    let at : Timer = lowered n counts t in
    ap (λ under. if under then after_underflow at else (if counts then record at { counter = at.counter - 1 } else at)) (no_underflow n counts t far)
    ∙ counted n counts t

-- both
pub tick_more : (n : ℕ) (s : CiaState) → HasNoUnderflow (suc n) s → after_tick (ticks_on n s) ≡ ticks_on (suc n) s
unfolding after_tick
tick_more n s far =
    let at : CiaState = ticks_on n s in
    let count : Bool = counts_as_a s.timer_a in
    ap (λ under. record at {
      timer_a = after_count count at.timer_a;
      timer_b = after_count (counts_as_b under at.timer_b) at.timer_b;
      icr = with_flag (is_underflow (counts_as_b under at.timer_b) at.timer_b) 1 (with_flag under 0 at.icr);
    }) (no_underflow n count s.timer_a far.0)
    ∙ ap (λ under. record at {
      timer_a = after_count count at.timer_a;
      timer_b = after_count (counts_b s) at.timer_b;
      icr = with_flag under 1 at.icr;
    }) (no_underflow n (counts_b s) s.timer_b far.1)
    ∙ ap (λ (t : Timer). record at { timer_a = t; timer_b = after_count (counts_b s) at.timer_b }) (count_more n count s.timer_a far.0)
    ∙ ap (λ (t : Timer). record at { timer_a = lowered (suc n) count s.timer_a; timer_b = t }) (count_more n (counts_b s) s.timer_b far.1)

pub no_ticks : (s : CiaState) → ticks_on 0 s ≡ s
no_ticks s =
    ap (λ (t : Timer). record s { timer_a = t; timer_b = lowered 0 (counts_b s) s.timer_b }) (lowered_none (counts_as_a s.timer_a) s.timer_a)
    ∙ ap (λ (t : Timer). record s { timer_b = t }) (lowered_none (counts_b s) s.timer_b)

pub fewer_ticks : FewerTicks
fewer_ticks m n s le far =
    (far_less m n (counts_as_a s.timer_a) s.timer_a le far.0, far_less m n (counts_b s) s.timer_b le far.1)

pub ticks_in_closed_form : TicksInClosedForm
unfolding after_ticks
ticks_in_closed_form zero s far = sym (no_ticks s)
ticks_in_closed_form (suc n) s far =
    ap after_tick (ticks_in_closed_form n s (fewer_ticks n (suc n) s (omega arith) far)) ∙ tick_more n s far

pub ticks_twice : TicksTwice
ticks_twice m n s =
    ap (λ (t : Timer). record s { timer_a = t; timer_b = lowered n (counts_b s) (lowered m (counts_b s) s.timer_b) })
    (lowered_twice m n (counts_as_a s.timer_a) s.timer_a)
    ∙ ap (λ (t : Timer). record s { timer_a = lowered (m + n) (counts_as_a s.timer_a) s.timer_a; timer_b = t })
    (lowered_twice m n (counts_b s) s.timer_b)

-- ticks among clocks
pub ticks_of_two : TicksOfTwo
ticks_of_two t m n = omega arith

pub one_tick_more : TickMore
one_tick_more t n is = grind (arith, nat_tests)

pub no_tick_more : TickLess
no_tick_more t n is = grind (arith, nat_tests)
