use Rattle.std.proofs.Common.{◌≡◌, ◌∙◌, ◌+◌, ℕ, bit_or, ap, arith}
use Rattle.painter.specs.code.Overlay.{quiet_collisions}
use Rattle.painter.specs.SpanParts.{quiet_gathered}
use Rattle.painter.proofs.Clocks.{none_gathered, one_gathered}
use Rattle.painter.proofs.painter.Painter.meet_each.Goals as goal

pub loop-clock-init : goal.loop-clock-init
loop-clock-init c p stands = none_gathered (λ (k : ℕ). quiet_collisions c.args.v (c.args.h + k) p) c.args.clx.now

pub loop-clock-preserved : goal.loop-clock-preserved
loop-clock-preserved c p stands =
    one_gathered (λ (k : ℕ). quiet_collisions c.args.v (c.args.h + k) p) c.args.clx.now c.loop-clock.clx c.meet_once.new.clx c.loop-clock.clock
    (c.loop-clock.invariant p stands) (c.meet_once.ensures p stands)

pub returns : goal.returns
returns c p stands =
    let last : c.loop-clock.clock ≡ c.args.count = omega (arith, c.loop-clock-test.false, c.loop-clock.auto.clock-end) in
    c.loop-clock.invariant p stands ∙ ap (λ (n : ℕ). bit_or c.args.clx.now (quiet_gathered c.args.v c.args.h n p)) last
