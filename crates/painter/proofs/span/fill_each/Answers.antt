use Rattle.std.proofs.Common.{◌≡◌, ◌∙◌, ◌+◌, ◌*◌, ◌++◌, ℕ, take, subst, refl, arith}
use Rattle.painter.specs.SpanParts.{bytes_of_clocks}
use Rattle.painter.proofs.Clocks.{none_put, one_put}
use Rattle.painter.proofs.span.fill_each.Goals as goal

pub loop-clock-init : goal.loop-clock-init
loop-clock-init c = record {
  bytes = none_put c.args.at (λ (k : ℕ). c.args.pixels.now) c.args.room.now;
  size = refl;
}

pub put-requires : goal.put-requires
put-requires c = omega (arith, c.requires, c.loop-clock.invariant.size, c.loop-clock-test.true)

pub loop-clock-preserved : goal.loop-clock-preserved
loop-clock-preserved c = record {
  bytes = one_put c.args.at c.loop-clock.clock (c.args.at + 12 * c.loop-clock.clock) (λ (k : ℕ). c.args.pixels.now)
      (take c.args.at c.args.room.now) c.loop-clock.room c.put.new.room c.args.pixels.now refl
      c.loop-clock.invariant.bytes c.put.ensures.bytes refl;
  size = c.put.ensures.size ∙ c.loop-clock.invariant.size;
}

pub returns-clause-bytes : goal.returns-clause-bytes
returns-clause-bytes c =
    let last : c.loop-clock.clock ≡ c.args.count = omega (arith, c.loop-clock-test.false, c.loop-clock.auto.clock-end) in
    subst (λ (n : ℕ). take (c.args.at + 12 * n) c.loop-clock.room ≡ take c.args.at c.args.room.now ++ bytes_of_clocks (λ (k : ℕ). c.args.pixels.now) n)
    last c.loop-clock.invariant.bytes
