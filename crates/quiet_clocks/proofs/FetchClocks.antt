-- Clocks at which everybody but the bitplanes rests.
use Rattle.std.proofs.Common.{◌≡◌, ℕ, zero, suc, ◌+◌, ◌%◌, ◌==◌, inl, inr, ◌&&◌, if◌then◌else◌, List}
use Rattle.std.proofs.Common.{Option, Some, None, is_some, arith, refl, ap, ◌∙◌, sym, subst}
use Rattle.std.specs.Option.{option_map}
use Rattle.irq_cia.specs.Bits.{has_bits}
use Rattle.irq_cia.specs.Ticks.{HasNoUnderflow}
use Rattle.ocs_base.specs.declared.beam.Beam.{Beam}
use Rattle.ocs_base.specs.declared.script.At.{At}
use Rattle.ocs_base.specs.declared.system.System.{System}
use Rattle.serial_model.specs.declared.bus.Ask.{Ask}
use Rattle.serial_model.specs.declared.bus.Ask.TheVariants as A
use Rattle.serial_model.specs.declared.bus.ProcessorAsk.{ProcessorAsk}
use Rattle.serial_model.specs.declared.bus.SideAsk.{SideAsk}
use Rattle.serial_model.specs.declared.bus.SideAsk.TheVariants as S
use Rattle.serial_model.specs.declared.copper.CopperState.{CopperState}
use Rattle.serial_model.specs.declared.fetch.PlaneAsk.{PlaneAsk}
use Rattle.serial_model.specs.declared.fetch.SpriteKind.{SpriteKind}
use Rattle.serial_model.specs.Beam.{next_place, later_beam}
use Rattle.serial_model.specs.Bus.{plane_wish, units_now, plane_owner_ask, ask_at, answer_to, made_by_ask, missed_after, ask_of_blit}
use Rattle.serial_model.specs.Cias.{tick_timers}
use Rattle.serial_model.specs.Copper.{wish_of, step_copper}
use Rattle.serial_model.specs.PlaneFetch.{fetched_plane, last_unit, units_at, ask_for_plane, move_planes, move_if_fetched, IsLastUnit}
use Rattle.serial_model.specs.Processor.{Processor}
use Rattle.serial_model.specs.Registers.{Registers, dmacon_of, is_interlaced, copper_dma, is_danger}
use Rattle.serial_model.specs.Side.{SideValue, IsInTime, tick_side, bits_of_side, ask_of_side, later_side}
use Rattle.serial_model.specs.SpriteFetch.{sprite_ask}
use Rattle.serial_model.specs.State.{Chips, State, is_busy}
use Rattle.serial_model.specs.Tick.{tick, made_of}
use Rattle.serial_model.proofs.FetchLaws.{last_unit-units_at, units_at-is}
use Rattle.serial_model.proofs.SlotLaws.{SameForSprites, move_planes-same, kinds_at-same, sprite_ask-same}
use Rattle.quiet_clocks.specs.Ticks.{ticks_in}
use Rattle.quiet_clocks.specs.PlainClock.{AsksNothingNew, asked_by_side, shown_at}
use Rattle.quiet_clocks.specs.QuietClock.{IsCalm, quiet_chips}
use Rattle.quiet_clocks.specs.QuietClocks.{clocks, later_units}
use Rattle.quiet_clocks.specs.OwnedClock.{fetched_state}
use Rattle.quiet_clocks.specs.FetchClocks.{IsAtRest, PlanesHave, IsFetchClock, made_by_plane, state_with_fetch, fetch_state, FetchTick, FetchMakes}
use Rattle.quiet_clocks.specs.FetchClocks.{Planes, planes_after, planes_on, planes_of_chips, Fetching, fetching_after, fetching_on, fetching_of, FetchingLater}
use Rattle.quiet_clocks.specs.FetchClocks.{fetched_later, state_fetched_later, IsFetchSpan, FetchSpan, FewerFetchClocks, EachIsFetchClock, StillIsAtRest}
use Rattle.quiet_clocks.proofs.PlainClock.{before_plain}
use Rattle.quiet_clocks.proofs.QuietClock.{nobody_asks, quiet_tick, still_copper, still_steps, still_blit}
use Rattle.quiet_clocks.proofs.QuietClocks.{timers_on, next_later, not_start, fewer_in, same_but_picture, not_none, chips_now}
use Rattle.quiet_clocks.proofs.OwnedClock.{plane_has, plane_tick}
use Rattle.quiet_clocks.proofs.Ticks.{fewer_ticks}

-- ---- one clock

calm_of : (b : Beam) (c : Chips) → IsAtRest b c → plane_wish b c ≡ None → IsCalm b c
calm_of b c rest none = record {
  plane = none;
  kinds = rest.kinds;
  sprite = ap (λ (kinds : List SpriteKind). sprite_ask b.h c.registers kinds (is_some (plane_wish b c))) rest.kinds
      ∙ rest.sprite (is_some (plane_wish b c));
  copper = rest.copper;
  steps = rest.steps;
  blit = rest.blit;
  wish = rest.wish;
}

in_time : (b : Beam) (side : SideAsk) → side ≡ S.Nothing → IsInTime b side
in_time b side none = subst (λ (ask : SideAsk). IsInTime b ask) (sym none) tt

have_by : (wish : Option PlaneAsk) (side : SideAsk) (b : Beam) (c : Chips) → plane_wish b c ≡ wish → side ≡ S.Nothing
    → IsLastUnit (last_unit c.units) → IsAtRest b c → ask_at side b c ≡ plane_owner_ask wish
have_by None side b c is none unit rest = nobody_asks side b c none (calm_of b c rest is)
have_by (Some ask) side b c is none unit rest = plane_has side b c ask unit (in_time b side none) is

pub planes_have : PlanesHave
planes_have side b c none unit rest = have_by (plane_wish b c) side b c refl none unit rest

abbrev moved_now : State → Registers
moved_now s = move_planes s.beam.h (last_unit (units_now s.beam s.chips)) s.chips.registers

interlace_kept : (moved registers : Registers) → SameForSprites moved registers → is_interlaced moved ≡ is_interlaced registers
interlace_kept moved registers same = ap (λ word. has_bits word 4) (same.kept 0x100 (inr (omega arith)))

-- a plane is fetched
with_plane : (system : System) (events : List At) (s : State) (after : Processor) (plane : ℕ) → IsFetchClock events s after
    → fetched_plane s.beam.h s.chips.registers (last_unit (units_now s.beam s.chips)) ≡ Some plane
    → tick system events s ≡ state_with_fetch system (Some plane) after s
with_plane system events s after plane clock is =
    let ask : PlaneAsk = ask_for_plane s.chips.registers plane in
    let b : Beam = s.beam in
    let c : Chips = s.chips in
    let fetched : State = fetched_state system ask after s in
    let moved : Registers = fetched.chips.registers in
    let same : SameForSprites (moved_now s) c.registers =
    move_planes-same b.h (last_unit (units_now b c)) c.registers (units_at-is b c.registers c.units clock.unit) in
    let here : moved_now s ≡ moved =
    ap (λ (found : Option ℕ). move_with b c found) is in
    let lace : is_interlaced moved ≡ is_interlaced c.registers =
    ap (λ (r : Registers). is_interlaced r) (sym here) ∙ interlace_kept (moved_now s) c.registers same in
    plane_tick system events s ask after (record {
      plain = clock.plain;
      unit = clock.unit;
      time = in_time b (asked_by_side s) clock.side;
      wish = ap (λ (found : Option ℕ). option_map (λ plane. ask_for_plane c.registers plane) found) is;
      turn = clock.turn;
    })
    ∙ ap (λ lace. record fetched { beam = next_place system lace b }) lace
    ∙ ap (λ (kinds : List SpriteKind). record fetched {
      beam = next_place system (is_interlaced c.registers) b;
      chips = record fetched.chips { kinds = kinds };
    }) clock.rest.kinds
    ∙ ap (λ (copper : CopperState). record fetched {
      beam = next_place system (is_interlaced c.registers) b;
      chips = record fetched.chips { kinds = c.kinds; copper = copper };
    }) clock.rest.steps
    ∙ ap (λ (wish : Option ProcessorAsk). record fetched {
      beam = next_place system (is_interlaced c.registers) b;
      chips = record fetched.chips { kinds = c.kinds; copper = c.copper; missed = missed_after wish (A.Plane ask) c.missed };
    }) clock.rest.wish
  where
    move_with : Beam → Chips → Option ℕ → Registers
    move_with b c found = move_if_fetched b.h (last_unit (units_now b c)) found c.registers

wish_of_found : (registers : Registers) (found : Option ℕ) → found ≡ None → option_map (λ plane. ask_for_plane registers plane) found ≡ None
wish_of_found registers found is = ap (λ (f : Option ℕ). option_map (λ plane. ask_for_plane registers plane) f) is

tick_by : (found : Option ℕ) (system : System) (events : List At) (s : State) (after : Processor) → IsFetchClock events s after
    → fetched_plane s.beam.h s.chips.registers (last_unit (units_now s.beam s.chips)) ≡ found
    → tick system events s ≡ state_with_fetch system found after s
tick_by None system events s after clock is = quiet_tick system events s after (record {
  plain = clock.plain;
  side = clock.side;
  calm = calm_of s.beam s.chips clock.rest (wish_of_found s.chips.registers _ is);
  turn = clock.turn;
})
tick_by (Some plane) system events s after clock is = with_plane system events s after plane clock is

pub fetch_tick : FetchTick
fetch_tick system events s after clock =
    tick_by (fetched_plane s.beam.h s.chips.registers (last_unit (units_now s.beam s.chips))) system events s after clock refl

made_with : (wish : Option PlaneAsk) (word : ℕ) (c : Chips) → made_by_ask (plane_owner_ask wish) word c ≡ made_by_plane wish
unfolding made_by_ask
made_with None word c = refl
made_with (Some ask) word c = refl

-- what the timers change is no part of the wishes
rest_at : (t : ℕ) (b : Beam) (c : Chips) → IsAtRest b c → IsAtRest b (tick_timers t c)
rest_at t b c rest = record {
  kinds = rest.kinds;
  sprite = rest.sprite;
  copper = rest.copper;
  steps = rest.steps;
  blit = rest.blit;
  wish = rest.wish;
}

pub fetch_makes : FetchMakes
unfolding made_by_ask ask_at
fetch_makes system events s after clock =
    ap (λ (x : State). made_of x) (before_plain system events s clock.plain)
    ∙ ap (λ (a : Ask). made_by_ask a (answer_to a s.beam (shown_at system s).clx (shown_at system s).chips s.memory) (shown_at system s).chips)
    (planes_have (asked_by_side s) s.beam (tick_timers s.t s.chips) clock.side clock.unit (rest_at s.t s.beam s.chips clock.rest))
    ∙ made_with (plane_wish s.beam s.chips) _ (shown_at system s).chips

pub still_is_at_rest : StillIsAtRest
still_is_at_rest b c still = record {
  kinds = still.kinds;
  sprite = still.sprite;
  copper = still_copper b c still.copper;
  steps = still_steps b c still.copper;
  blit = still_blit c still.blit;
  wish = still.wish;
}

-- ---- what the fetches keep

same_itself : (registers : Registers) → SameForSprites registers registers
same_itself registers = record { size = refl; kept = λ offset other. refl }

same_then : (a b c : Registers) → SameForSprites a b → SameForSprites b c → SameForSprites a c
same_then a b c one two = record {
  size = one.size ∙ two.size;
  kept = λ offset other. one.kept offset other ∙ two.kept offset other;
}

pub record AreKept (p old : Planes) : Type 0 where
  pub unit : IsLastUnit (last_unit p.units)
  pub same : SameForSprites p.registers old.registers

kept_after : (b : Beam) (p old : Planes) → AreKept p old → AreKept (planes_after b p) old
kept_after b p old kept =
    let unit : IsLastUnit (last_unit (units_at b p.registers p.units)) = units_at-is b p.registers p.units kept.unit in
    record {
      unit = unit;
      same = same_then (planes_after b p).registers p.registers old.registers
          (move_planes-same b.h (last_unit (units_at b p.registers p.units)) p.registers unit) kept.same;
    }

pub kept_on : (n : ℕ) (b : Beam) (p : Planes) → IsLastUnit (last_unit p.units) → AreKept (planes_on n b p) p
unfolding planes_on
kept_on zero b p unit = record { unit = unit; same = same_itself p.registers }
kept_on (suc n) b p unit = kept_after (later_beam n b) (planes_on n b p) p (kept_on n b p unit)

dmacon_kept : (moved registers : Registers) → SameForSprites moved registers → dmacon_of moved ≡ dmacon_of registers
dmacon_kept moved registers same = same.kept 0x96 (inl (omega arith))

danger_kept : (moved registers : Registers) → SameForSprites moved registers → is_danger moved ≡ is_danger registers
danger_kept moved registers same = ap (λ word. has_bits word 2) (same.kept 0x2e (inl (omega arith)))

-- who rests by registers rests by these
rest_kept : (b : Beam) (c : Chips) (moved : Registers) → SameForSprites moved c.registers → IsAtRest b c → IsAtRest b (record c { registers = moved })
rest_kept b c moved same rest =
    let dmacon : dmacon_of moved ≡ dmacon_of c.registers = dmacon_kept moved c.registers same in
    record {
      kinds = kinds_at-same b moved c.registers c.kinds same ∙ rest.kinds;
      sprite = λ taken. sprite_ask-same b.h moved c.registers c.kinds taken same ∙ rest.sprite taken;
      copper = ap (λ word. if (b.h % 2 == 0) && has_bits word 640 then wish_of c.copper else None) dmacon ∙ rest.copper;
      steps = ap (λ word. if (b.h % 2 == 0) && has_bits word 640 then step_copper b (is_busy c) (is_danger moved) None c.copper else c.copper) dmacon
          ∙ ap (λ danger. if (b.h % 2 == 0) && copper_dma c.registers then step_copper b (is_busy c) danger None c.copper else c.copper)
          (danger_kept moved c.registers same)
          ∙ rest.steps;
      blit = ap (λ word. if has_bits word 576 then option_map ask_of_blit c.blit else None) dmacon ∙ rest.blit;
      wish = rest.wish;
    }

-- ---- the last unit alone

fetching_step : (b : Beam) (p : Planes) → fetching_of (planes_after b p) ≡ fetching_after b (fetching_of p)
fetching_step b p =
    ap (λ (last : Option ℕ). the_fetching (move_planes b.h last p.registers) last) (last_unit-units_at b p.registers p.units)
  where
    the_fetching : Registers → Option ℕ → Fetching
    the_fetching registers last = record { registers = registers; last = last }

pub fetching_later : FetchingLater
unfolding planes_on fetching_on
fetching_later zero b p = refl
fetching_later (suc n) b p =
    fetching_step (later_beam n b) (planes_on n b p) ∙ ap (λ (f : Fetching). fetching_after (later_beam n b) f) (fetching_later n b p)

-- ---- fewer clocks

pub fewer_fetch_clocks : FewerFetchClocks
fewer_fetch_clocks events m n s processors le span = record {
  inner = span.inner;
  last = omega (arith, le, span.last);
  begin = span.begin;
  unit = span.unit;
  due = λ k low. span.due k (omega (arith, le, low));
  lines = λ k low. span.lines k (omega (arith, le, low));
  side = λ k low. span.side k (omega (arith, le, low));
  rest = λ k low. span.rest k (omega (arith, le, low));
  turns = λ k low. span.turns k (omega (arith, le, low));
  timers_a = fewer_ticks (ticks_in s.t m) (ticks_in s.t n) s.chips.cia_a (fewer_in s.t m n le) span.timers_a;
  timers_b = fewer_ticks (ticks_in s.t m) (ticks_in s.t n) s.chips.cia_b (fewer_in s.t m n le) span.timers_b;
}

-- ---- each clock

abbrev planes_in : ℕ → State → Planes
planes_in n s = planes_on n s.beam (planes_of_chips s.chips)

lines_later : (n : ℕ) (s : State) (processors : ℕ → Processor) (bits : ℕ)
    → HasNoUnderflow (ticks_in s.t (suc n)) s.chips.cia_a → HasNoUnderflow (ticks_in s.t (suc n)) s.chips.cia_b → AsksNothingNew bits s.chips
    → AsksNothingNew bits (tick_timers (s.t + n) (fetched_later s.beam s.t n processors s.chips))
lines_later n s processors bits far_a far_b asked =
    subst (λ (c : Chips). AsksNothingNew bits (record c { registers = (planes_in n s).registers; units = (planes_in n s).units }))
    (sym (timers_on s.beam s.t n processors s.chips far_a far_b)) asked

rest_later : (b : Beam) (t n : ℕ) (processors : ℕ → Processor) (c : Chips) → IsLastUnit (last_unit c.units)
    → IsAtRest (later_beam n b) (record c { processor = processors n }) → IsAtRest (later_beam n b) (fetched_later b t n processors c)
rest_later b t n processors c unit rest =
    let moved : Registers = (planes_on n b (planes_of_chips c)).registers in
    let there : IsAtRest (later_beam n b) (record c { processor = processors n; registers = moved }) =
    rest_kept (later_beam n b) (record c { processor = processors n }) moved (kept_on n b (planes_of_chips c) unit).same rest in
    record {
      kinds = there.kinds;
      sprite = there.sprite;
      copper = there.copper;
      steps = there.steps;
      blit = there.blit;
      wish = there.wish;
    }

dmacon_in : (n : ℕ) (s : State) → IsLastUnit (last_unit s.chips.units) → dmacon_of (planes_in n s).registers ≡ dmacon_of s.chips.registers
dmacon_in n s unit = dmacon_kept (planes_in n s).registers s.chips.registers (kept_on n s.beam (planes_of_chips s.chips) unit).same

next_is_fetch_clock : (system : System) (events : List At) (n : ℕ) (s : State) (processors : ℕ → Processor)
    → IsFetchSpan events s (suc n) processors → IsFetchClock events (state_fetched_later system events n processors s) (processors (suc n))
unfolding state_fetched_later later_side
next_is_fetch_clock system events n s processors span =
    let dmacon : dmacon_of s.chips.registers ≡ dmacon_of (planes_in n s).registers = sym (dmacon_in n s span.unit) in
    let before : SideValue = later_side n s.beam (dmacon_of s.chips.registers) s.side in
    let now : Beam = later_beam n s.beam in
    record {
      plain = record {
        inner = not_start n s.beam span.inner;
        due = span.due n (omega arith);
        lines = subst (λ word. AsksNothingNew (bits_of_side now word before) (tick_timers (s.t + n) (fetched_later s.beam s.t n processors s.chips)))
            dmacon (lines_later n s processors _ span.timers_a span.timers_b (span.lines n (omega arith)));
      };
      side = subst (λ word. ask_of_side now word (tick_side now word before) ≡ S.Nothing) dmacon (span.side n (omega arith));
      unit = (kept_on n s.beam (planes_of_chips s.chips) span.unit).unit;
      rest = rest_later s.beam s.t n processors s.chips span.unit (span.rest n (omega arith));
      turn = span.turns n (omega arith);
    }

pub each_is_fetch_clock : EachIsFetchClock
each_is_fetch_clock system events n k s processors span low =
    next_is_fetch_clock system events k s processors (fewer_fetch_clocks events (suc k) n s processors (omega (arith, low)) span)

-- ---- one clock more

chips_later : (n : ℕ) (s : State) (processors : ℕ → Processor)
    → HasNoUnderflow (ticks_in s.t (suc n)) s.chips.cia_a → HasNoUnderflow (ticks_in s.t (suc n)) s.chips.cia_b
    → record (quiet_chips (later_beam n s.beam) (s.t + n) (processors (suc n)) (fetched_later s.beam s.t n processors s.chips)) {
      registers = (planes_in (suc n) s).registers;
    } ≡ fetched_later s.beam s.t (suc n) processors s.chips
unfolding planes_on
chips_later n s processors far_a far_b =
    ap (λ (c : Chips). record c {
      registers = (planes_in (suc n) s).registers;
      units = (planes_in (suc n) s).units;
      processor = processors (suc n);
      missed = 0;
    }) (timers_on s.beam s.t n processors s.chips far_a far_b)
    ∙ ap (λ none. record (fetched_later s.beam s.t (suc n) processors s.chips) { missed = if none then s.chips.missed else 0 }) (sym (not_none n))

fetched_next : (system : System) (events : List At) (n : ℕ) (s x : State) (processors : ℕ → Processor) → IsFetchSpan events s (suc n) processors
    → x ≡ fetch_state system (processors (suc n)) (state_fetched_later system events n processors s)
    → x ≡ record x {
      t = s.t + suc n;
      beam = later_beam (suc n) s.beam;
      memory = s.memory;
      chips = fetched_later s.beam s.t (suc n) processors s.chips;
      side = later_side (suc n) s.beam (dmacon_of s.chips.registers) s.side;
      trace = s.trace;
    }
unfolding state_fetched_later later_side planes_on
fetched_next system events n s x processors span is =
    let e : s.t + n + 1 ≡ s.t + suc n = omega arith in
    let before : SideValue = later_side n s.beam (dmacon_of s.chips.registers) s.side in
    same_but_picture x (s.t + suc n) (later_beam (suc n) s.beam) s.memory (fetched_later s.beam s.t (suc n) processors s.chips)
    (later_side (suc n) s.beam (dmacon_of s.chips.registers) s.side) s.trace
    (ap (λ (y : State). y.t) is ∙ e)
    (ap (λ (y : State). y.beam) is ∙ next_later system (is_interlaced (planes_in n s).registers) n s.beam span.last)
    (ap (λ (y : State). y.memory) is)
    (ap (λ (y : State). y.chips) is ∙ chips_later n s processors span.timers_a span.timers_b)
    (ap (λ (y : State). y.side) is ∙ ap (λ word. tick_side (later_beam n s.beam) word before) (dmacon_in n s span.unit))
    (ap (λ (y : State). y.trace) is)

no_clocks : (system : System) (events : List At) (s : State) (processors : ℕ → Processor) → processors 0 ≡ s.chips.processor
    → s ≡ state_fetched_later system events 0 processors s
unfolding clocks state_fetched_later later_side planes_on later_units
no_clocks system events s processors begin =
    let t : s.t ≡ s.t + 0 = omega arith in
    let h : s.beam.h ≡ s.beam.h + 0 = omega arith in
    same_but_picture s (s.t + 0) (later_beam 0 s.beam) s.memory (fetched_later s.beam s.t 0 processors s.chips) s.side s.trace
    t (ap (λ h. record s.beam { h = h }) h) refl (chips_now s processors begin) refl refl

pub fetch_span : FetchSpan
unfolding clocks state_fetched_later
fetch_span system events zero s processors span = no_clocks system events s processors span.begin
fetch_span system events (suc n) s processors span =
    let fewer : IsFetchSpan events s n processors = fewer_fetch_clocks events n (suc n) s processors (omega arith) span in
    fetched_next system events n s (clocks system events (suc n) s) processors span
    (ap (λ (x : State). tick system events x) (fetch_span system events n s processors fewer)
    ∙ fetch_tick system events (state_fetched_later system events n processors s) (processors (suc n))
    (next_is_fetch_clock system events n s processors span))
