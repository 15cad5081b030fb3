use Rattle.std.proofs.Common.{◌≡◌, ◌∙◌, ◌+◌, ◌*◌, ℕ, take, ap, subst, arith, refl}
use Rattle.serial_model.specs.Spans.{after_shows}
use Rattle.painter.specs.Span.{visible_clocks, IsSpan}
use Rattle.painter.proofs.Spans.{no_span, none_visible, joined, visible_further, visible_both}
use Rattle.painter.proofs.painter.Painter.show_span.Goals as goal

pub loop-shown-init : goal.loop-shown-init
loop-shown-init c =
    let none = none_visible c.args.from.system c.args.from.v c.args.from.h in
    record {
      given = λ p stands. no_span c.args.from.system c.args.from.v c.args.from.h p c.args.self.now (take c.args.filled c.args.room.now) c.args.clx.now stands;
      most = omega arith;
      filled = omega arith;
      size = refl;
    }

pub show_part-part-requires-clause-room : goal.show_part-part-requires-clause-room
show_part-part-requires-clause-room c =
    let both = visible_both c.args.from c.further.result c.loop-shown.shown c.args.count c.further.ensures c.loop-shown.invariant.most in
    omega (arith, c.requires.room, c.loop-shown.invariant.filled, c.loop-shown.invariant.size)

pub loop-shown-preserved : goal.loop-shown-preserved
loop-shown-preserved c =
    let n : ℕ = c.loop-shown.shown in
    let more = visible_further c.args.from c.further.result c.loop-shown.shown c.show_part-part.result.count c.further.ensures in
    record {
      given = λ p stands.
          let one = c.loop-shown.invariant.given p stands in
          joined c.args.from c.further.result c.loop-shown.shown c.show_part-part.result.count p c.loop-shown.self c.show_part-part.new.self
          (take c.args.filled c.args.room.now) (take c.loop-shown.at c.loop-shown.room)
          (take c.show_part-part.result.behind c.show_part-part.new.room)
          c.args.clx.now c.loop-shown.clx c.show_part-part.new.clx c.further.ensures one
          (c.show_part-part.ensures.given (after_shows c.args.from.system c.args.from.v c.args.from.h c.loop-shown.shown p) one.painted);
      most = omega (arith, c.show_part-part.ensures.most, c.loop-shown-test.true);
      filled = omega (arith, c.show_part-part.ensures.filled, c.loop-shown.invariant.filled);
      size = c.show_part-part.ensures.size ∙ c.loop-shown.invariant.size;
    }

pub returns-clause-given : goal.returns-clause-given
returns-clause-given c p stands =
    let last : c.loop-shown.shown ≡ c.args.count = omega (arith, c.loop-shown-test.false, c.loop-shown.invariant.most) in
    subst (λ (n : ℕ). IsSpan c.args.from.system c.args.from.v c.args.from.h n p c.loop-shown.self
    (take c.args.filled c.args.room.now) (take c.loop-shown.at c.loop-shown.room) c.args.clx.now c.loop-shown.clx) last
    (c.loop-shown.invariant.given p stands)

pub returns-clause-filled : goal.returns-clause-filled
returns-clause-filled c =
    let last : c.loop-shown.shown ≡ c.args.count = omega (arith, c.loop-shown-test.false, c.loop-shown.invariant.most) in
    c.loop-shown.invariant.filled
    ∙ ap (λ (n : ℕ). c.args.filled + 12 * visible_clocks c.args.from.system c.args.from.v c.args.from.h n) last
