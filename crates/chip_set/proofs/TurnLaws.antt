-- The CIAs and the processor over plain values.
use Rattle.std.proofs.Common.{◌≡◌, ◌⊎◌, inl, inr, ◌<◌, ℕ, ◌+◌, ◌-◌, ◌%◌, ◌==◌, if◌then◌else◌, Bool, not, false, bit_or, arith, ap, subst, sym, ◌∙◌}
use Rattle.std.proofs.lemmas.Bool.Decides.{nat_tests}
use Rattle.irq_cia.specs.Cia.{after_tick}
use Rattle.irq_cia.specs.Interrupts.{Interrupts, after_request}
use Rattle.irq_cia.specs.declared.cia.CiaState.{CiaState}
use Rattle.quiet_clocks.proofs.QuietClock.{if_either}
use Rattle.serial_bands.proofs.Ors.{or_none}
use Rattle.serial_model.specs.Cias.{line_bits, request_lines, tick_timers, time_chips}
use Rattle.serial_model.specs.State.{Chips}
use Rattle.chip_set.specs.Bus.{CiasRest, TimersStand}
use Rattle.chip_set.specs.Chips.{WorkingChips, IsChipsOf}
use Rattle.chip_set.proofs.QuietLaws.{lines_of}

-- the interrupts of the side and of the CIAs were requested
pub lines_requested : (bits lines : ℕ) (mid : WorkingChips) (c : Chips) → lines ≡ line_bits c → IsChipsOf mid c
    → IsChipsOf (record mid { irq = after_request (bit_or bits lines) mid.irq }) (request_lines bits c)
lines_requested bits lines mid c same is =
    record {
      registers = is.registers;
      last = is.last;
      kinds = is.kinds;
      copper = is.copper;
      blit = is.blit;
      zero = is.zero;
      irq = ap (λ b. after_request (bit_or bits b) c.irq) (sym same) ∙ ap (λ i. after_request (bit_or bits lines) i) is.irq;
      processor = is.processor;
      missed = is.missed;
      cia_a = is.cia_a;
      cia_b = is.cia_b;
      inputs = is.inputs;
    }

is_zero : (bits : ℕ) → not (bits == 0) ≡ false → bits ≡ 0
is_zero bits quiet = grind (arith, nat_tests, quiet)

-- where the side requests nothing and no line is active nothing is requested
pub no_line : (bits : ℕ) (mid : WorkingChips) (c : Chips) → bits ≡ 0 → not (line_bits c == 0) ≡ false → IsChipsOf mid c
    → IsChipsOf mid (request_lines bits c)
no_line bits mid c silent quiet is =
    let none : line_bits c ≡ 0 = is_zero (line_bits c) quiet in
    let same : after_request (bit_or bits (line_bits c)) c.irq ≡ c.irq =
    ap (λ b. after_request (bit_or b (line_bits c)) c.irq) silent
    ∙ ap (λ b. after_request (bit_or 0 b) c.irq) none
    ∙ ap (λ r. record c.irq { req = r }) (or_none c.irq.req) in
    subst (λ i. IsChipsOf mid (record c { irq = i })) (sym same) is

-- no tick changes the CIAs where there is none, and where it leaves them as they are
pub untouched : (t : ℕ) (now : WorkingChips) (c : Chips) → IsChipsOf now c → (((t % 5 == 0) ≡ false) ⊎ TimersStand now) → tick_timers t c ≡ c
untouched t now c is (inl off) =
    ap (λ (on : Bool). record c {
      cia_a = if on then after_tick c.cia_a else c.cia_a;
      cia_b = if on then after_tick c.cia_b else c.cia_b;
    }) off
untouched t now c is (inr stand) =
    let a : after_tick c.cia_a ≡ c.cia_a = subst (λ (cia : CiaState). after_tick cia ≡ cia) (sym is.cia_a) stand.0 in
    let b : after_tick c.cia_b ≡ c.cia_b = subst (λ (cia : CiaState). after_tick cia ≡ cia) (sym is.cia_b) stand.1 in
    ap (λ (cia : CiaState). record c { cia_a = cia; cia_b = if t % 5 == 0 then after_tick c.cia_b else c.cia_b })
    (if_either (t % 5 == 0) (after_tick c.cia_a) c.cia_a a)
    ∙ ap (λ (cia : CiaState). record c { cia_b = cia }) (if_either (t % 5 == 0) (after_tick c.cia_b) c.cia_b b)

-- at a clock at which the CIAs rest nothing is done for them
pub rested : (t n : ℕ) (now : WorkingChips) (c : Chips) → CiasRest t n now → 0 < n → IsChipsOf now c → IsChipsOf now (time_chips 0 t c)
unfolding time_chips
rested t n now c rest some is =
    let e : t + 0 ≡ t = omega arith in
    let here = rest 0 some in
    let ticks : tick_timers t c ≡ c = untouched t now c is (subst (λ at. ((at % 5 == 0) ≡ false) ⊎ TimersStand now) e here.0) in
    let lines : request_lines 0 c ≡ c = ap (λ (irq : Interrupts). record c { irq = irq }) (lines_of now c is here.1) in
    subst (λ (x : Chips). IsChipsOf now x) (sym (ap (λ x. request_lines 0 x) ticks ∙ lines)) is

-- the clocks before the next tick
pub no_tick : (t k : ℕ) → k < (5 - t % 5) % 5 → ((t + k) % 5 == 0) ≡ false
no_tick t k below = grind (arith, nat_tests, below)
