use Rattle.std.proofs.Common.{◌≡◌, ◌∙◌, ◌+◌, ◌*◌, ℕ, true, take, ap, subst, sym, arith, refl}
use Rattle.ocs_base.specs.Systems.{is_visible}
use Rattle.serial_model.specs.Spans.{after_shows}
use Rattle.serial_model.specs.Window.{is_inside}
use Rattle.painter.specs.declared.field_place.FieldPlace.{FieldPlace}
use Rattle.painter.specs.Span.{IsSpan}
use Rattle.painter.specs.code.Starts.{IsSteady}
use Rattle.painter.specs.code.Steady.{IsSteadyFrom}
use Rattle.painter.proofs.Covering.{steady_same, steady_further}
use Rattle.painter.proofs.Spans.{no_span, joined}
use Rattle.painter.proofs.painter.Painter.show_steady.Goals as goal

no_further : (n : ℕ) → n + 12 * 0 ≡ n
no_further n = omega arith

one_further : (n shown : ℕ) → n + 12 * shown + 12 ≡ n + 12 * (shown + 1)
one_further n shown = omega arith

pub loop-shown-init : goal.loop-shown-init
loop-shown-init c = record {
  given = λ p stands.
      subst (λ (n : ℕ). IsSpan c.args.from.system c.args.from.v c.args.from.h 0 p c.args.self.now (take c.args.filled c.args.room.now)
      (take n c.args.room.now) c.args.clx.now c.args.clx.now) (sym (no_further c.args.filled))
      (no_span c.args.from.system c.args.from.v c.args.from.h p c.args.self.now (take c.args.filled c.args.room.now) c.args.clx.now stands);
  window = refl;
  sprites = refl;
  line = refl;
  size = refl;
}

pub show_steady_clock-requires-clause-first : goal.show_steady_clock-requires-clause-first
show_steady_clock-requires-clause-first c =
    subst (λ (place : FieldPlace). is_inside place.v (2 * place.h) c.loop-shown.self.window.diwstrt c.loop-shown.self.window.diwstop ≡ true)
    (sym c.further.ensures)
    (ap (λ window. is_inside c.args.from.v (2 * (c.args.from.h + c.loop-shown.shown)) window.diwstrt window.diwstop) c.loop-shown.invariant.window
    ∙ c.requires.first c.loop-shown.shown (omega (arith, c.loop-shown-test.true)))

pub show_steady_clock-requires-clause-second : goal.show_steady_clock-requires-clause-second
show_steady_clock-requires-clause-second c =
    subst (λ (place : FieldPlace). is_inside place.v (2 * place.h + 1) c.loop-shown.self.window.diwstrt c.loop-shown.self.window.diwstop ≡ true)
    (sym c.further.ensures)
    (ap (λ window. is_inside c.args.from.v (2 * (c.args.from.h + c.loop-shown.shown) + 1) window.diwstrt window.diwstop) c.loop-shown.invariant.window
    ∙ c.requires.second c.loop-shown.shown (omega (arith, c.loop-shown-test.true)))

pub show_steady_clock-requires-clause-seen : goal.show_steady_clock-requires-clause-seen
show_steady_clock-requires-clause-seen c =
    subst (λ (place : FieldPlace). is_visible place.system place.v place.h ≡ true) (sym c.further.ensures)
    (c.requires.seen c.loop-shown.shown (omega (arith, c.loop-shown-test.true)))

pub show_steady_clock-requires-clause-steady : goal.show_steady_clock-requires-clause-steady
show_steady_clock-requires-clause-steady c =
    subst (λ (place : FieldPlace). IsSteady place.h c.loop-shown.self.sprites) (sym c.further.ensures)
    (steady_same (c.args.from.h + c.loop-shown.shown) c.args.self.now c.loop-shown.self c.loop-shown.invariant.sprites
    (c.requires.steady c.loop-shown.shown (omega (arith, c.loop-shown-test.true))))

pub show_steady_clock-requires-clause-holds : goal.show_steady_clock-requires-clause-holds
show_steady_clock-requires-clause-holds c =
    subst (λ (place : FieldPlace). IsSteadyFrom place.h c.steady_from-steady.result c.loop-shown.self) (sym c.further.ensures)
    (steady_further c.args.from.h c.loop-shown.shown c.steady_from-steady.result c.args.self.now c.loop-shown.self
    c.loop-shown.invariant.sprites c.loop-shown.invariant.line c.steady_from-steady.ensures)

pub show_steady_clock-requires-clause-room : goal.show_steady_clock-requires-clause-room
show_steady_clock-requires-clause-room c =
    omega (arith, c.requires.room, c.loop-shown.invariant.size, c.loop-shown-test.true)

pub loop-shown-preserved : goal.loop-shown-preserved
loop-shown-preserved c = record {
  given = λ p stands.
      let one = c.loop-shown.invariant.given p stands in
      subst (λ (n : ℕ). IsSpan c.args.from.system c.args.from.v c.args.from.h (c.loop-shown.shown + 1) p c.show_steady_clock.new.self
      (take c.args.filled c.args.room.now) (take n c.show_steady_clock.new.room) c.args.clx.now c.show_steady_clock.new.clx)
      (one_further c.args.filled c.loop-shown.shown)
      (joined c.args.from c.further.result c.loop-shown.shown 1 p c.loop-shown.self c.show_steady_clock.new.self
      (take c.args.filled c.args.room.now) (take (c.args.filled + 12 * c.loop-shown.shown) c.loop-shown.room)
      (take (c.args.filled + 12 * c.loop-shown.shown + 12) c.show_steady_clock.new.room)
      c.args.clx.now c.loop-shown.clx c.show_steady_clock.new.clx c.further.ensures one
      (c.show_steady_clock.ensures.given (after_shows c.args.from.system c.args.from.v c.args.from.h c.loop-shown.shown p) one.painted));
  window = c.show_steady_clock.ensures.window ∙ c.loop-shown.invariant.window;
  sprites = c.show_steady_clock.ensures.sprites ∙ c.loop-shown.invariant.sprites;
  line = c.show_steady_clock.ensures.line ∙ c.loop-shown.invariant.line;
  size = c.show_steady_clock.ensures.size ∙ c.loop-shown.invariant.size;
}

pub returns-clause-given : goal.returns-clause-given
returns-clause-given c p stands =
    let last : c.loop-shown.shown ≡ c.args.count = omega (arith, c.loop-shown-test.false, c.loop-shown.auto.shown-end) in
    subst (λ (n : ℕ). IsSpan c.args.from.system c.args.from.v c.args.from.h n p c.loop-shown.self
    (take c.args.filled c.args.room.now) (take (c.args.filled + 12 * n) c.loop-shown.room) c.args.clx.now c.loop-shown.clx) last
    (c.loop-shown.invariant.given p stands)

pub returns-then-clx-steady-clause-given : goal.returns-then-clx-steady-clause-given
returns-then-clx-steady-clause-given c p stands =
    c.show_alone.ensures.given p c.args.clx.now stands (grind arith)
