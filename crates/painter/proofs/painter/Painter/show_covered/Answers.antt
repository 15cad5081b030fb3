use Rattle.std.proofs.Common.{◌≡◌, ◌≤◌, ◌<◌, ◌∙◌, ◌+◌, ◌-◌, ◌*◌, ℕ, true, take, ap, subst, sym, arith, refl}
use Rattle.ocs_base.specs.declared.system.System.{System}
use Rattle.ocs_base.specs.Systems.{is_visible}
use Rattle.serial_model.specs.Spans.{after_shows}
use Rattle.serial_model.specs.Window.{is_inside}
use Rattle.painter.specs.declared.field_place.FieldPlace.{FieldPlace}
use Rattle.painter.specs.Span.{IsSpan}
use Rattle.painter.proofs.Spans.{no_span, joined}
use Rattle.painter.proofs.painter.Painter.show_covered.Goals as goal

no_further : (n : ℕ) → n + 12 * 0 ≡ n
no_further n = omega arith

further : (n shown more : ℕ) → n + 12 * shown + 12 * more ≡ n + 12 * (shown + more)
further n shown more = omega arith

-- what is so of many clocks is so of those behind the first
behind_first : (P : System → ℕ → ℕ → Type 0) (from there : FieldPlace) (shown count : ℕ) → there ≡ record from { h = from.h + shown } →
    ((k : ℕ) → k < count → P from.system from.v (from.h + k)) → shown ≤ count →
    (k : ℕ) → k < count - shown → P there.system there.v (there.h + k)
behind_first P from there shown count is all most =
    subst (λ (place : FieldPlace). (k : ℕ) → k < count - shown → P place.system place.v (place.h + k)) (sym is)
    (λ k few.
    let same : from.h + (shown + k) ≡ from.h + shown + k = omega arith in
    subst (P from.system from.v) same (all (shown + k) (omega (arith, most, few))))

pub loop-shown-init : goal.loop-shown-init
loop-shown-init c = record {
  given = λ p stands.
      subst (λ (n : ℕ). IsSpan c.args.from.system c.args.from.v c.args.from.h 0 p c.args.self.now (take c.args.filled c.args.room.now)
      (take n c.args.room.now) c.args.clx.now c.args.clx.now) (sym (no_further c.args.filled))
      (no_span c.args.from.system c.args.from.v c.args.from.h p c.args.self.now (take c.args.filled c.args.room.now) c.args.clx.now stands);
  most = omega arith;
  window = refl;
  size = refl;
}

pub show_next-shown-requires-clause-first : goal.show_next-shown-requires-clause-first
show_next-shown-requires-clause-first c =
    behind_first (λ (system : System) (v k : ℕ). is_inside v (2 * k) c.loop-shown.self.window.diwstrt c.loop-shown.self.window.diwstop ≡ true)
    c.args.from c.further.result c.loop-shown.shown c.args.count c.further.ensures
    (λ k few. ap (λ window. is_inside c.args.from.v (2 * (c.args.from.h + k)) window.diwstrt window.diwstop) c.loop-shown.invariant.window
    ∙ c.requires.first k few)
    c.loop-shown.invariant.most

pub show_next-shown-requires-clause-second : goal.show_next-shown-requires-clause-second
show_next-shown-requires-clause-second c =
    behind_first (λ (system : System) (v k : ℕ). is_inside v (2 * k + 1) c.loop-shown.self.window.diwstrt c.loop-shown.self.window.diwstop ≡ true)
    c.args.from c.further.result c.loop-shown.shown c.args.count c.further.ensures
    (λ k few. ap (λ window. is_inside c.args.from.v (2 * (c.args.from.h + k) + 1) window.diwstrt window.diwstop) c.loop-shown.invariant.window
    ∙ c.requires.second k few)
    c.loop-shown.invariant.most

pub show_next-shown-requires-clause-seen : goal.show_next-shown-requires-clause-seen
show_next-shown-requires-clause-seen c =
    behind_first (λ (system : System) (v k : ℕ). is_visible system v k ≡ true) c.args.from c.further.result c.loop-shown.shown c.args.count
    c.further.ensures c.requires.seen c.loop-shown.invariant.most

pub show_next-shown-requires-clause-room : goal.show_next-shown-requires-clause-room
show_next-shown-requires-clause-room c =
    omega (arith, c.requires.room, c.loop-shown.invariant.size, c.loop-shown.invariant.most)

pub loop-shown-preserved : goal.loop-shown-preserved
loop-shown-preserved c =
    let n : ℕ = c.loop-shown.shown in
    let m : ℕ = c.show_next-shown.result in
    record {
      given = λ p stands.
          let one = c.loop-shown.invariant.given p stands in
          subst (λ (k : ℕ). IsSpan c.args.from.system c.args.from.v c.args.from.h (c.loop-shown.shown + c.show_next-shown.result) p c.show_next-shown.new.self
          (take c.args.filled c.args.room.now) (take k c.show_next-shown.new.room) c.args.clx.now c.show_next-shown.new.clx)
          (further c.args.filled n m)
          (joined c.args.from c.further.result n m p c.loop-shown.self c.show_next-shown.new.self
          (take c.args.filled c.args.room.now) (take (c.args.filled + 12 * c.loop-shown.shown) c.loop-shown.room)
          (take (c.args.filled + 12 * c.loop-shown.shown + 12 * c.show_next-shown.result) c.show_next-shown.new.room)
          c.args.clx.now c.loop-shown.clx c.show_next-shown.new.clx c.further.ensures one
          (c.show_next-shown.ensures.given (after_shows c.args.from.system c.args.from.v c.args.from.h c.loop-shown.shown p) one.painted));
      most = omega (arith, c.show_next-shown.ensures.most, c.loop-shown-test.true);
      window = c.show_next-shown.ensures.window ∙ c.loop-shown.invariant.window;
      size = c.show_next-shown.ensures.size ∙ c.loop-shown.invariant.size;
    }

pub returns-clause-given : goal.returns-clause-given
returns-clause-given c p stands =
    let last : c.loop-shown.shown ≡ c.args.count = omega (arith, c.loop-shown-test.false, c.loop-shown.invariant.most) in
    subst (λ (n : ℕ). IsSpan c.args.from.system c.args.from.v c.args.from.h n p c.loop-shown.self
    (take c.args.filled c.args.room.now) (take (c.args.filled + 12 * n) c.loop-shown.room) c.args.clx.now c.loop-shown.clx) last
    (c.loop-shown.invariant.given p stands)
