-- Quiet clocks one behind the other.
use Rattle.std.proofs.Common.{◌≡◌, ◌<◌, ◌≤◌, ℕ, zero, suc, ◌+◌, ◌%◌, ◌==◌, Bool, true}
use Rattle.std.proofs.Common.{false, not, ◌&&◌, nat_le, if◌then◌else◌, List, arith, refl, ap, ◌∙◌, sym, subst}
use Rattle.std.proofs.lemmas.Bool.Decides.{nat_tests}
use Rattle.irq_cia.specs.Cia.{after_tick}
use Rattle.irq_cia.specs.declared.cia.CiaState.{CiaState}
use Rattle.ocs_base.specs.declared.beam.Beam.{Beam}
use Rattle.ocs_base.specs.declared.script.At.{At}
use Rattle.ocs_base.specs.declared.system.System.{System}
use Rattle.ocs_base.specs.declared.system.System.TheVariants.{Pal, Ntsc}
use Rattle.ocs_base.specs.Systems.{lines}
use Rattle.serial_model.specs.declared.trace.TraceLine.{TraceLine}
use Rattle.serial_model.specs.Beam.{next_place, is_line_end, is_line_start, later_beam}
use Rattle.serial_model.specs.Cias.{tick_timers}
use Rattle.serial_model.specs.Processor.{Processor}
use Rattle.serial_model.specs.Registers.{dmacon_of, is_interlaced}
use Rattle.serial_model.specs.Serial.{state_over}
use Rattle.serial_model.specs.Side.{SideValue, tick_side, later_side}
use Rattle.serial_model.specs.State.{Chips, State}
use Rattle.serial_model.specs.Tick.{tick}
use Rattle.irq_cia.specs.Ticks.{HasNoUnderflow, ticks_on}
use Rattle.quiet_clocks.specs.Ticks.{ticks_in}
use Rattle.quiet_clocks.specs.PlainClock.{AsksNothingNew}
use Rattle.quiet_clocks.specs.QuietClock.{IsCalm, IsQuiet, quiet_state, quiet_chips}
use Rattle.quiet_clocks.specs.QuietClocks.{clocks, later_units, later_chips, later_state, IsQuietSpan, QuietSpan}
use Rattle.quiet_clocks.specs.QuietClocks.{FewerAreQuiet, ClocksOfTwo, ClocksOfRun}
use Rattle.quiet_clocks.proofs.Ticks.{tick_more, no_ticks, fewer_ticks, one_tick_more, no_tick_more}
use Rattle.quiet_clocks.proofs.QuietClock.{quiet_tick}

-- ---- the timers

tick_if : (fifth : Bool) (t n : ℕ) (cia : CiaState) → ((t + n) % 5 == 0) ≡ fifth → HasNoUnderflow (ticks_in t (suc n)) cia
    → (if fifth then after_tick (ticks_on (ticks_in t n) cia) else ticks_on (ticks_in t n) cia) ≡ ticks_on (ticks_in t (suc n)) cia
tick_if true t n cia is far =
    let more : ticks_in t (suc n) ≡ suc (ticks_in t n) = one_tick_more t n is in
    let enough : HasNoUnderflow (suc (ticks_in t n)) cia = subst (λ k. HasNoUnderflow k cia) more far in
    tick_more (ticks_in t n) cia enough ∙ ap (λ k. ticks_on k cia) (sym more)
tick_if false t n cia is far = ap (λ k. ticks_on k cia) (sym (no_tick_more t n is))

timer_on : (t n : ℕ) (cia : CiaState) → HasNoUnderflow (ticks_in t (suc n)) cia
    → (if (t + n) % 5 == 0 then after_tick (ticks_on (ticks_in t n) cia) else ticks_on (ticks_in t n) cia) ≡ ticks_on (ticks_in t (suc n)) cia
timer_on t n cia far = tick_if ((t + n) % 5 == 0) t n cia refl far

pub timers_on : (b : Beam) (t n : ℕ) (processors : ℕ → Processor) (c : Chips)
    → HasNoUnderflow (ticks_in t (suc n)) c.cia_a → HasNoUnderflow (ticks_in t (suc n)) c.cia_b
    → tick_timers (t + n) (later_chips b t n processors c)
    ≡ record (later_chips b t n processors c) { cia_a = ticks_on (ticks_in t (suc n)) c.cia_a; cia_b = ticks_on (ticks_in t (suc n)) c.cia_b }
timers_on b t n processors c far_a far_b =
    let fifth : Bool = (t + n) % 5 == 0 in
    let later : Chips = later_chips b t n processors c in
    ap (λ (cia : CiaState). record later { cia_a = cia; cia_b = if fifth then after_tick later.cia_b else later.cia_b }) (timer_on t n c.cia_a far_a)
    ∙ ap (λ (cia : CiaState). record later { cia_a = ticks_on (ticks_in t (suc n)) c.cia_a; cia_b = cia }) (timer_on t n c.cia_b far_b)

-- ---- the beam

not_line_end : (system : System) (n : ℕ) (b : Beam) → b.h + suc n ≤ 226 → is_line_end system (later_beam n b) ≡ false
not_line_end Pal n b last = grind (arith, nat_tests)
not_line_end Ntsc n b last = grind (arith, nat_tests)

abbrev place_after : System → Bool → Bool → Beam → Beam
place_after system end lace b =
    let field : Bool = end && nat_le (lines system b.lof) (b.v + 1) in
    record {
      frame = if field then b.frame + 1 else b.frame;
      v = if field then 0 else if end then b.v + 1 else b.v;
      h = if end then 0 else b.h + 1;
      lof = if field && lace then not b.lof else b.lof;
    }

within_line : (system : System) (lace : Bool) (b : Beam) → is_line_end system b ≡ false → next_place system lace b ≡ record b { h = b.h + 1 }
within_line system lace b inner = ap (λ end. place_after system end lace b) inner

pub next_later : (system : System) (lace : Bool) (n : ℕ) (b : Beam) → b.h + suc n ≤ 226
    → next_place system lace (later_beam n b) ≡ later_beam (suc n) b
next_later system lace n b last =
    let e : b.h + n + 1 ≡ b.h + suc n = omega arith in
    within_line system lace (later_beam n b) (not_line_end system n b last) ∙ ap (λ h. record b { h = h }) e

-- ---- fewer clocks

pub fewer_in : (t m n : ℕ) → m ≤ n → ticks_in t m ≤ ticks_in t n
fewer_in t m n le = omega arith

pub fewer_are_quiet : FewerAreQuiet
fewer_are_quiet events m n s processors le span = record {
  inner = span.inner;
  last = omega (arith, le, span.last);
  begin = span.begin;
  due = λ k low. span.due k (omega (arith, le, low));
  lines = λ k low. span.lines k (omega (arith, le, low));
  side = λ k low. span.side k (omega (arith, le, low));
  calm = λ k low. span.calm k (omega (arith, le, low));
  turns = λ k low. span.turns k (omega (arith, le, low));
  timers_a = fewer_ticks (ticks_in s.t m) (ticks_in s.t n) s.chips.cia_a (fewer_in s.t m n le) span.timers_a;
  timers_b = fewer_ticks (ticks_in s.t m) (ticks_in s.t n) s.chips.cia_b (fewer_in s.t m n le) span.timers_b;
}

-- ---- one clock more

lines_later : (n : ℕ) (s : State) (processors : ℕ → Processor) (bits : ℕ)
    → HasNoUnderflow (ticks_in s.t (suc n)) s.chips.cia_a → HasNoUnderflow (ticks_in s.t (suc n)) s.chips.cia_b → AsksNothingNew bits s.chips
    → AsksNothingNew bits (tick_timers (s.t + n) (later_chips s.beam s.t n processors s.chips))
lines_later n s processors bits far_a far_b asked =
    subst (λ (c : Chips). AsksNothingNew bits c) (sym (timers_on s.beam s.t n processors s.chips far_a far_b)) asked

calm_later : (b : Beam) (t n : ℕ) (processors : ℕ → Processor) (c : Chips)
    → IsCalm (later_beam n b) (record c { processor = processors n; units = later_units n b c.registers c.units })
    → IsCalm (later_beam n b) (later_chips b t n processors c)
calm_later b t n processors c calm = record {
  plane = calm.plane;
  kinds = calm.kinds;
  sprite = calm.sprite;
  copper = calm.copper;
  steps = calm.steps;
  blit = calm.blit;
  wish = calm.wish;
}

pub not_start : (n : ℕ) (b : Beam) → 0 < b.h → is_line_start (later_beam n b) ≡ false
not_start n b inner = grind (arith, nat_tests)

next_is_quiet : (system : System) (events : List At) (n : ℕ) (s : State) (processors : ℕ → Processor) → IsQuietSpan events s (suc n) processors
    → IsQuiet events (later_state system events n processors s) (processors (suc n))
unfolding later_state later_side
next_is_quiet system events n s processors span = record {
  plain = record {
    inner = not_start n s.beam span.inner;
    due = span.due n (omega arith);
    lines = lines_later n s processors _ span.timers_a span.timers_b (span.lines n (omega arith));
  };
  side = span.side n (omega arith);
  calm = calm_later s.beam s.t n processors s.chips (span.calm n (omega arith));
  turn = span.turns n (omega arith);
}

-- a state that has these parts beside its picture
pub same_but_picture : (x : State) (t : ℕ) (beam : Beam) (memory : List ℕ) (chips : Chips) (side : SideValue) (trace : List TraceLine)
    → x.t ≡ t → x.beam ≡ beam → x.memory ≡ memory → x.chips ≡ chips → x.side ≡ side → x.trace ≡ trace
    → x ≡ record x { t = t; beam = beam; memory = memory; chips = chips; side = side; trace = trace }
same_but_picture x t beam memory chips side trace at place words has beside told =
    ap (λ a. record x { t = a }) at
    ∙ ap (λ (a : Beam). record x { t = t; beam = a }) place
    ∙ ap (λ a. record x { t = t; beam = beam; memory = a }) words
    ∙ ap (λ (a : Chips). record x { t = t; beam = beam; memory = memory; chips = a }) has
    ∙ ap (λ (a : SideValue). record x { t = t; beam = beam; memory = memory; chips = chips; side = a }) beside
    ∙ ap (λ a. record x { t = t; beam = beam; memory = memory; chips = chips; side = side; trace = a }) told

pub not_none : (n : ℕ) → (suc n == 0) ≡ false
not_none n = grind (arith, nat_tests)

chips_later : (n : ℕ) (s : State) (processors : ℕ → Processor)
    → HasNoUnderflow (ticks_in s.t (suc n)) s.chips.cia_a → HasNoUnderflow (ticks_in s.t (suc n)) s.chips.cia_b
    → quiet_chips (later_beam n s.beam) (s.t + n) (processors (suc n)) (later_chips s.beam s.t n processors s.chips)
    ≡ later_chips s.beam s.t (suc n) processors s.chips
unfolding later_units
chips_later n s processors far_a far_b =
    ap (λ (c : Chips). record c {
      units = later_units (suc n) s.beam s.chips.registers s.chips.units;
      processor = processors (suc n);
      missed = 0;
    }) (timers_on s.beam s.t n processors s.chips far_a far_b)
    ∙ ap (λ none. record (later_chips s.beam s.t (suc n) processors s.chips) { missed = if none then s.chips.missed else 0 }) (sym (not_none n))

quiet_later : (system : System) (events : List At) (n : ℕ) (s x : State) (processors : ℕ → Processor) → IsQuietSpan events s (suc n) processors
    → x ≡ quiet_state system (processors (suc n)) (later_state system events n processors s)
    → x ≡ record x {
      t = s.t + suc n;
      beam = later_beam (suc n) s.beam;
      memory = s.memory;
      chips = later_chips s.beam s.t (suc n) processors s.chips;
      side = later_side (suc n) s.beam (dmacon_of s.chips.registers) s.side;
      trace = s.trace;
    }
unfolding later_state later_side
quiet_later system events n s x processors span is =
    let e : s.t + n + 1 ≡ s.t + suc n = omega arith in
    same_but_picture x (s.t + suc n) (later_beam (suc n) s.beam) s.memory (later_chips s.beam s.t (suc n) processors s.chips)
    (later_side (suc n) s.beam (dmacon_of s.chips.registers) s.side) s.trace
    (ap (λ (y : State). y.t) is ∙ e)
    (ap (λ (y : State). y.beam) is ∙ next_later system (is_interlaced s.chips.registers) n s.beam span.last)
    (ap (λ (y : State). y.memory) is)
    (ap (λ (y : State). y.chips) is ∙ chips_later n s processors span.timers_a span.timers_b)
    (ap (λ (y : State). y.side) is)
    (ap (λ (y : State). y.trace) is)

-- no clock
pub chips_now : (s : State) (processors : ℕ → Processor) → processors 0 ≡ s.chips.processor → s.chips ≡ later_chips s.beam s.t 0 processors s.chips
unfolding later_units
chips_now s processors begin =
    let none : 0 ≡ ticks_in s.t 0 = omega arith in
    ap (λ (p : Processor). record s.chips { processor = p }) (sym begin)
    ∙ ap (λ (cia : CiaState). record s.chips { processor = processors 0; cia_a = cia })
    (sym (no_ticks s.chips.cia_a) ∙ ap (λ k. ticks_on k s.chips.cia_a) none)
    ∙ ap (λ (cia : CiaState). record s.chips { processor = processors 0; cia_a = ticks_on (ticks_in s.t 0) s.chips.cia_a; cia_b = cia })
    (sym (no_ticks s.chips.cia_b) ∙ ap (λ k. ticks_on k s.chips.cia_b) none)

no_clocks : (system : System) (events : List At) (s : State) (processors : ℕ → Processor) → processors 0 ≡ s.chips.processor
    → s ≡ later_state system events 0 processors s
unfolding clocks later_state later_side
no_clocks system events s processors begin =
    let t : s.t ≡ s.t + 0 = omega arith in
    let h : s.beam.h ≡ s.beam.h + 0 = omega arith in
    same_but_picture s (s.t + 0) (later_beam 0 s.beam) s.memory (later_chips s.beam s.t 0 processors s.chips) s.side s.trace
    t (ap (λ h. record s.beam { h = h }) h) refl (chips_now s processors begin) refl refl

pub quiet_span : QuietSpan
unfolding clocks later_state
quiet_span system events zero s processors span = no_clocks system events s processors span.begin
quiet_span system events (suc n) s processors span =
    let fewer : IsQuietSpan events s n processors = fewer_are_quiet events n (suc n) s processors (omega arith) span in
    quiet_later system events n s (clocks system events (suc n) s) processors span
    (ap (λ (x : State). tick system events x) (quiet_span system events n s processors fewer)
    ∙ quiet_tick system events (later_state system events n processors s) (processors (suc n)) (next_is_quiet system events n s processors span))

pub clocks_of_two : ClocksOfTwo
unfolding clocks
clocks_of_two system events m zero s =
    let e : m + 0 ≡ m = omega arith in
    ap (λ k. clocks system events k s) e
clocks_of_two system events m (suc n) s =
    let e : m + suc n ≡ suc (m + n) = omega arith in
    ap (λ k. clocks system events k s) e ∙ ap (λ (x : State). tick system events x) (clocks_of_two system events m n s)

pub clocks_of_run : ClocksOfRun
unfolding clocks state_over
clocks_of_run side image script from zero =
    let e : from + 0 ≡ from = omega arith in
    ap (λ k. state_over side image script k) e
clocks_of_run side image script from (suc n) =
    let e : from + suc n ≡ suc (from + n) = omega arith in
    ap (λ k. state_over side image script k) e
    ∙ ap (λ (x : State). tick script.system script.events x) (clocks_of_run side image script from n)
