-- Many ticks of the channels at once, and clocks in which they do nothing on the bus.
use Rattle.std.proofs.Common.{◌≡◌, ◌<◌, ◌≤◌, ℕ, zero, suc, ◌+◌, ◌-◌, ◌==◌, Bool, true, false, not, ◌&&◌, ◌||◌, if◌then◌else◌, Option, None, Some}
use Rattle.std.proofs.Common.{is_none, is_some, max, arith, refl, ap, subst, ◌∙◌, sym, true≢false}
use Rattle.std.proofs.lemmas.Bool.Decides.{nat_tests}
use Rattle.ocs_base.specs.declared.beam.Beam.{Beam}
use Rattle.paula_audio.specs.Channel.{after_start, after_switch, first_half, next_half, next_half_at_zero}
use Rattle.paula_audio.specs.Channel.{after_count, count_if_on, after_tick, is_requested, wants_word}
use Rattle.paula_audio.specs.Paula.{PaulaValue, has_dma, clock_of, channel_ask, paula_ask, paula_bits, paula_side}
use Rattle.paula_audio.specs.code.Quiet.{ticked, counted, last_tick, paula_later, IsQuietChannel}
use Rattle.paula_audio.specs.declared.channel.Channel.{Channel}
use Rattle.serial_model.specs.Beam.{later_beam}
use Rattle.serial_model.specs.Registers.{bit_worth}
use Rattle.serial_model.specs.Side.{SideValue, tick_side, later_side, bits_of_side, ask_of_side, IsQuietSide}
use Rattle.serial_model.specs.declared.bus.SideAsk.{SideAsk}
use Rattle.serial_model.specs.declared.bus.SideAsk.TheVariants as S

-- ---- a channel that is on, and that is not to request its interrupt

record IsSounding (c : Channel) : Type 0 where
  on : c.on ≡ true
  due : c.due ≡ false

either : (b : Bool) (x y : Channel) → IsSounding x → IsSounding y → IsSounding (if b then x else y)
either true x y first second = first
either false x y first second = second

first_sounds : (held : Option ℕ) (c : Channel) → IsSounding c → IsSounding (first_half held c)
first_sounds None c is = is
first_sounds (Some word) c is = record { on = is.on; due = is.due }

half_sounds : (c : Channel) → IsSounding c → IsSounding (next_half_at_zero c)
half_sounds c is = either _ _ _ (either _ _ _ (record { on = is.on; due = is.due }) (first_sounds c.held c is)) is

count_sounds : (c : Channel) → IsSounding c → IsSounding (after_count c)
count_sounds c is = half_sounds (record c { counter = c.counter - 1 }) (record { on = is.on; due = is.due })

counted_sounds : (n : ℕ) (c : Channel) → IsSounding c → IsSounding (counted n c)
unfolding counted
counted_sounds zero c is = is
counted_sounds (suc n) c is = count_sounds (counted n c) (counted_sounds n c is)

if_true : (b : Bool) (x y : Channel) → b ≡ true → (if b then x else y) ≡ x
if_true true x y is = refl
if_true false x y is = absurd (true≢false (sym is))

tick_counts : (c : Channel) → IsSounding c → after_tick true c ≡ after_count c
tick_counts c is =
    ap (λ due. count_if_on (after_switch true (record c { due = due }))) (sym is.due)
    ∙ ap (λ (x : Channel). count_if_on x) (if_true c.on c (after_start c) is.on)
    ∙ if_true c.on (after_count c) c is.on

ticked_counts : (n : ℕ) (c : Channel) → IsSounding c → ticked true n c ≡ counted n c
unfolding ticked counted
ticked_counts zero c is = refl
ticked_counts (suc n) c is =
    ap (λ (x : Channel). after_tick true x) (ticked_counts n c is) ∙ tick_counts (counted n c) (counted_sounds n c is)

-- a tick with its bits of DMACON set makes it such a channel
switch_sounds : (on : Bool) (c : Channel) → c.on ≡ on → c.due ≡ false → IsSounding (if on then c else after_start c)
switch_sounds true c is due = record { on = is; due = due }
switch_sounds false c is due = record { on = refl; due = due }

count_if_sounds : (c : Channel) → IsSounding c → IsSounding (count_if_on c)
count_if_sounds c is = either _ _ _ (count_sounds c is) is

tick_sounds : (c : Channel) → IsSounding (after_tick true c)
tick_sounds c = count_if_sounds _ (switch_sounds c.on (record c { due = false }) refl refl)

-- ---- many ticks

tick_first : (dma : Bool) (n : ℕ) (c : Channel) → ticked dma n (after_tick dma c) ≡ ticked dma (suc n) c
unfolding ticked
tick_first dma zero c = refl
tick_first dma (suc n) c = ap (λ (x : Channel). after_tick dma x) (tick_first dma n c)

pub no_tick : (dma : Bool) (n : ℕ) (c : Channel) → n ≡ 0 → c ≡ ticked dma n c
unfolding ticked
no_tick dma n c none = ap (λ k. ticked dma k c) (sym none)

pub ticked_on : (dma : Bool) (n : ℕ) (c : Channel) → dma ≡ true → 0 < n → counted (n - 1) (after_tick dma c) ≡ ticked dma n c
ticked_on true n c is some =
    let e : suc (n - 1) ≡ n = omega (arith, some) in
    sym (ticked_counts (n - 1) (after_tick true c) (tick_sounds c)) ∙ tick_first true (n - 1) c ∙ ap (λ k. ticked true k c) e
ticked_on false n c is some = absurd (true≢false (sym is))

off_stays : (n : ℕ) (c : Channel) → ticked false (suc n) c ≡ after_tick false c
unfolding ticked
off_stays zero c = refl
off_stays (suc n) c = ap (λ (x : Channel). after_tick false x) (off_stays n c)

pub ticked_off : (dma : Bool) (n : ℕ) (c : Channel) → dma ≡ false → 0 < n → after_tick dma c ≡ ticked dma n c
ticked_off false n c is some =
    let e : suc (n - 1) ≡ n = omega (arith, some) in
    sym (off_stays (n - 1) c) ∙ ap (λ k. ticked false k c) e
ticked_off true n c is some = absurd (true≢false is)

-- ---- its counter

not_zero : (n : ℕ) → 0 < n → (n == 0) ≡ false
not_zero n some = grind (arith, nat_tests)

later_counter : (c : Channel) (n : ℕ) → 0 < n → next_half_at_zero (record c { counter = n }) ≡ record c { counter = n }
later_counter c n some =
    ap (λ none. if none then next_half (record c { counter = n }) else record c { counter = n }) (not_zero n some)

counted_down : (n : ℕ) (c : Channel) → n ≤ c.counter - 1 → counted n c ≡ record c { counter = c.counter - n }
unfolding counted
counted_down zero c few = let e : c.counter ≡ c.counter - 0 = omega arith in ap (λ k. record c { counter = k }) e
counted_down (suc n) c few =
    let e : c.counter - n - 1 ≡ c.counter - suc n = omega arith in
    ap (λ (x : Channel). after_count x) (counted_down n c (omega (arith, few)))
    ∙ later_counter c (c.counter - n - 1) (omega (arith, few))
    ∙ ap (λ k. record c { counter = k }) e

pub counted_less : (n : ℕ) (c : Channel) → n < c.counter → record c { counter = c.counter - n } ≡ counted n c
counted_less n c few = sym (counted_down n c (omega (arith, few)))

-- the next half begins with the clock at which it comes to 0
pub counted_half : (n : ℕ) (c : Channel) → n ≡ max c.counter 1 → next_half (record c { counter = c.counter - n }) ≡ counted n c
unfolding counted
counted_half n c is =
    let m = c.counter - 1 in
    let e : n ≡ suc m = omega (arith, is) in
    let all : c.counter - n ≡ 0 = omega (arith, is) in
    let none : c.counter - m - 1 ≡ 0 = omega arith in
    ap (λ k. next_half (record c { counter = k })) all
    ∙ sym (ap (λ k. counted k c) e
    ∙ ap (λ (x : Channel). after_count x) (counted_down m c (omega arith))
    ∙ ap (λ k. next_half_at_zero (record c { counter = k })) none)

counted_both : (m n : ℕ) (c : Channel) → counted m (counted n c) ≡ counted (n + m) c
unfolding counted
counted_both zero n c = let e : n ≡ n + 0 = omega arith in ap (λ k. counted k c) e
counted_both (suc m) n c =
    let e : suc (n + m) ≡ n + suc m = omega arith in
    ap (λ (x : Channel). after_count x) (counted_both m n c) ∙ ap (λ k. counted k c) e

pub counted_rest : (left passed : ℕ) (c : Channel) → passed ≤ left → counted (left - passed) (counted passed c) ≡ counted left c
counted_rest left passed c few =
    let e : passed + (left - passed) ≡ left = omega (arith, few) in
    counted_both (left - passed) passed c ∙ ap (λ k. counted k c) e

pub counted_none : (left : ℕ) (c : Channel) → left ≡ 0 → counted left c ≡ c
unfolding counted
counted_none left c none = ap (λ k. counted k c) none

-- ---- a channel that does nothing on the bus

no_dma_no_wish : (on none : Bool) → (on && none && false) ≡ false
no_dma_no_wish true true = refl
no_dma_no_wish true false = refl
no_dma_no_wish false none = refl

held_no_wish : (on dma : Bool) → (on && false && dma) ≡ false
held_no_wish true dma = refl
held_no_wish false dma = refl

off_requests : (k : ℕ) (c : Channel) → c.due ≡ false → is_requested false (ticked false k c) ≡ false
unfolding ticked
off_requests zero c due = ap (λ d. is_requested false (record c { due = d })) due
off_requests (suc k) c due = refl

on_requests : (k : ℕ) (c : Channel) → IsSounding c → is_requested true (ticked true k c) ≡ false
on_requests k c is =
    let after : IsSounding (counted k c) = counted_sounds k c is in
    ap (λ (x : Channel). is_requested true x) (ticked_counts k c is)
    ∙ ap (λ d. is_requested true (record (counted k c) { due = d })) after.due
    ∙ ap (λ o. is_requested true (record (counted k c) { due = false; on = o })) after.on

-- what is known where it requests nothing now
asks_now : (due dma on : Bool) → (due || (dma && not on)) ≡ false → (due ≡ false) × (dma ≡ true → on ≡ true)
asks_now true dma on is = absurd (true≢false is)
asks_now false true true is = (refl, λ set. refl)
asks_now false true false is = absurd (true≢false is)
asks_now false false on is = (refl, λ set. absurd (true≢false (sym set)))

pub quiet_off : (h slot : ℕ) (dma : Bool) (n : ℕ) (c : Channel) → is_requested dma c ≡ false → dma ≡ false → IsQuietChannel h slot dma n c
quiet_off h slot false n c none off = record {
  requests = λ k low. off_requests k c (asks_now c.due false c.on none).0;
  asks = λ k low at. no_dma_no_wish (ticked false (suc k) c).on (is_none (ticked false (suc k) c).held);
}
quiet_off h slot true n c none off = absurd (true≢false off)

sounds : (c : Channel) → is_requested true c ≡ false → IsSounding c
sounds c none = record { on = (asks_now c.due true c.on none).1 refl; due = (asks_now c.due true c.on none).0 }

-- none of the clocks is its own
quiet_on : (h slot : ℕ) (dma : Bool) (n : ℕ) (c : Channel) → is_requested dma c ≡ false → dma ≡ true
    → ((k : ℕ) → k < n → h + k ≡ slot → IsSounding c → wants_word true (ticked true (suc k) c) ≡ false) → IsQuietChannel h slot dma n c
quiet_on h slot true n c none set asks = record {
  requests = λ k low. on_requests k c (sounds c none);
  asks = λ k low at. asks k low at (sounds c none);
}
quiet_on h slot false n c none set asks = absurd (true≢false (sym set))

pub quiet_behind : (h slot : ℕ) (dma : Bool) (n : ℕ) (c : Channel) → is_requested dma c ≡ false → dma ≡ true → slot < h
    → IsQuietChannel h slot dma n c
quiet_behind h slot dma n c none set behind = quiet_on h slot dma n c none set (λ k low at is. absurd (omega (arith, behind, at)))

pub quiet_before : (h slot : ℕ) (dma : Bool) (n : ℕ) (c : Channel) → is_requested dma c ≡ false → dma ≡ true → n ≤ slot - h
    → IsQuietChannel h slot dma n c
quiet_before h slot dma n c none set before = quiet_on h slot dma n c none set (λ k low at is. absurd (omega (arith, before, at, low)))

-- or it holds a word up to it
holds : (held : Option ℕ) → is_some held ≡ true → is_none held ≡ false
holds (Some word) is = refl
holds None is = absurd (true≢false (sym is))

holds_there : (k : ℕ) (c : Channel) → IsSounding c → is_some c.held ≡ true → suc k < c.counter → wants_word true (ticked true (suc k) c) ≡ false
holds_there k c is some far =
    ap (λ (x : Channel). wants_word true x) (ticked_counts (suc k) c is ∙ sym (counted_less (suc k) c far))
    ∙ ap (λ none. c.on && none && true) (holds c.held some)
    ∙ held_no_wish c.on true

pub quiet_holding : (h slot : ℕ) (dma : Bool) (n : ℕ) (c : Channel) → is_requested dma c ≡ false → dma ≡ true → is_some c.held ≡ true
    → (slot - h) + 1 < c.counter → IsQuietChannel h slot dma n c
quiet_holding h slot dma n c none set some far =
    quiet_on h slot dma n c none set (λ k low at is. holds_there k c is some (omega (arith, far, at)))

pub quiet_for_none : (h slot : ℕ) (dma : Bool) (c : Channel) → IsQuietChannel h slot dma 0 c
quiet_for_none h slot dma c = record {
  requests = λ k low. absurd (omega (arith, low));
  asks = λ k low at. absurd (omega (arith, low));
}

quiet_for_fewer : (h slot : ℕ) (dma : Bool) (m n : ℕ) (c : Channel) → m ≤ n → IsQuietChannel h slot dma n c → IsQuietChannel h slot dma m c
quiet_for_fewer h slot dma m n c le is = record {
  requests = λ k low. is.requests k (omega (arith, le, low));
  asks = λ k low at. is.asks k (omega (arith, le, low)) at;
}

-- ---- the four of them

later_channels : (n : ℕ) (b : Beam) (dmacon : ℕ) (p : PaulaValue) → later_side n b dmacon (paula_side p) ≡ paula_side (paula_later n b dmacon p)
unfolding later_side ticked last_tick
later_channels zero b dmacon p = refl
later_channels (suc n) b dmacon p = ap (λ (side : SideValue). tick_side (later_beam n b) dmacon side) (later_channels n b dmacon p)

pub skipped : (n : ℕ) (b : Beam) (dmacon : ℕ) (p q : PaulaValue) → q ≡ paula_later n b dmacon p
    → paula_side q ≡ later_side n b dmacon (paula_side p)
skipped n b dmacon p q is = ap (λ (x : PaulaValue). paula_side x) is ∙ sym (later_channels n b dmacon p)

pub last_one : (n : ℕ) (b : Beam) (h : ℕ) → (n ≡ 0 → ⊥) → b.h + n - 1 ≡ last_tick n b h
unfolding last_tick
last_one (suc n) b h some = omega arith
last_one zero b h some = absurd (some refl)

pub last_none : (n : ℕ) (b : Beam) (h : ℕ) → n ≡ 0 → h ≡ last_tick n b h
unfolding last_tick
last_none n b h none = ap (λ k. last_tick k b h) (sym none)

abbrev pub IsQuietHere : ℕ → Beam → ℕ → ℕ → Channel → Type 0
IsQuietHere channel b dmacon n c = IsQuietChannel b.h (clock_of channel) (has_dma channel dmacon) n c

no_bits : (k : ℕ) (b : Beam) (dmacon : ℕ) (p : PaulaValue) → is_requested (has_dma 0 dmacon) (ticked (has_dma 0 dmacon) k p.zero) ≡ false
    → is_requested (has_dma 1 dmacon) (ticked (has_dma 1 dmacon) k p.one) ≡ false
    → is_requested (has_dma 2 dmacon) (ticked (has_dma 2 dmacon) k p.two) ≡ false
    → is_requested (has_dma 3 dmacon) (ticked (has_dma 3 dmacon) k p.three) ≡ false → paula_bits dmacon (paula_later k b dmacon p) ≡ 0
no_bits k b dmacon p a c d e =
    let second : Bool = is_requested (has_dma 1 dmacon) (ticked (has_dma 1 dmacon) k p.one) in
    let third : Bool = is_requested (has_dma 2 dmacon) (ticked (has_dma 2 dmacon) k p.two) in
    let fourth : Bool = is_requested (has_dma 3 dmacon) (ticked (has_dma 3 dmacon) k p.three) in
    ap (λ x. bit_worth x 128 + bit_worth second 256 + bit_worth third 512 + bit_worth fourth 1024) a
    ∙ ap (λ x. 0 + bit_worth x 256 + bit_worth third 512 + bit_worth fourth 1024) c
    ∙ ap (λ x. 0 + 0 + bit_worth x 512 + bit_worth fourth 1024) d
    ∙ ap (λ x. 0 + 0 + 0 + bit_worth x 1024) e

nothing_if : (test : Bool) (x y : SideAsk) → (test ≡ true → x ≡ S.Nothing) → y ≡ S.Nothing → (if test then x else y) ≡ S.Nothing
nothing_if true x y first second = first refl
nothing_if false x y first second = second

is_place : (a b : ℕ) → (a == b) ≡ true → a ≡ b
is_place a b is = grind (arith, nat_tests, is)

asks_none : (channel : ℕ) (dma : Bool) (c : Channel) → wants_word dma c ≡ false → channel_ask channel dma c ≡ S.Nothing
asks_none channel dma c none = ap (λ wish. if wish then S.Audio channel c.at else S.Nothing) none

no_ask : (k : ℕ) (b : Beam) (dmacon n : ℕ) (p : PaulaValue) → k < n → IsQuietHere 0 b dmacon n p.zero → IsQuietHere 1 b dmacon n p.one
    → IsQuietHere 2 b dmacon n p.two → IsQuietHere 3 b dmacon n p.three
    → paula_ask (later_beam k b) dmacon (paula_later (suc k) b dmacon p) ≡ S.Nothing
no_ask k b dmacon n p low a c d e =
    nothing_if _ _ _ (λ at. asks_none 0 (has_dma 0 dmacon) (ticked (has_dma 0 dmacon) (suc k) p.zero) (a.asks k low (is_place _ _ at)))
    (nothing_if _ _ _ (λ at. asks_none 1 (has_dma 1 dmacon) (ticked (has_dma 1 dmacon) (suc k) p.one) (c.asks k low (is_place _ _ at)))
    (nothing_if _ _ _ (λ at. asks_none 2 (has_dma 2 dmacon) (ticked (has_dma 2 dmacon) (suc k) p.two) (d.asks k low (is_place _ _ at)))
    (nothing_if _ _ _ (λ at. asks_none 3 (has_dma 3 dmacon) (ticked (has_dma 3 dmacon) (suc k) p.three) (e.asks k low (is_place _ _ at))) refl)))

pub paula_is_quiet : (b : Beam) (dmacon first second third n : ℕ) (p : PaulaValue) → n ≤ third → third ≤ second → second ≤ first
    → IsQuietHere 0 b dmacon first p.zero → IsQuietHere 1 b dmacon second p.one → IsQuietHere 2 b dmacon third p.two
    → IsQuietHere 3 b dmacon n p.three → IsQuietSide b dmacon n (paula_side p)
paula_is_quiet b dmacon first second third n p few fewer least a0 a1 a2 a3 =
    let c0 : IsQuietHere 0 b dmacon n p.zero = quiet_for_fewer _ _ _ n first p.zero (omega (arith, few, fewer, least)) a0 in
    let c1 : IsQuietHere 1 b dmacon n p.one = quiet_for_fewer _ _ _ n second p.one (omega (arith, few, fewer)) a1 in
    let c2 : IsQuietHere 2 b dmacon n p.two = quiet_for_fewer _ _ _ n third p.two few a2 in
    record {
      bits = λ k low. ap (λ (side : SideValue). bits_of_side (later_beam k b) dmacon side) (later_channels k b dmacon p)
          ∙ no_bits k b dmacon p (c0.requests k low) (c1.requests k low) (c2.requests k low) (a3.requests k low);
      ask = λ k low. ap (λ (side : SideValue). ask_of_side (later_beam k b) dmacon side) (later_channels (suc k) b dmacon p)
          ∙ no_ask k b dmacon n p low c0 c1 c2 a3;
    }

-- where the bits of DMACON are told by tests
pub quiet_told : (channel : ℕ) (b : Beam) (dmacon n : ℕ) (dma : Bool) (c : Channel) → dma ≡ has_dma channel dmacon
    → IsQuietChannel b.h (clock_of channel) dma n c → IsQuietHere channel b dmacon n c
quiet_told channel b dmacon n dma c told is = subst (λ d. IsQuietChannel b.h (clock_of channel) d n c) told is
