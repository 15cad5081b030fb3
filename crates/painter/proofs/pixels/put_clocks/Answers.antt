use Rattle.std.proofs.Common.{◌≡◌, ◌∙◌, ◌+◌, ◌*◌, ◌++◌, ℕ, take, subst, refl, arith}
use Rattle.painter.specs.SpanParts.{bytes_of_clocks, ink_pixels}
use Rattle.painter.proofs.Clocks.{none_put, one_put}
use Rattle.painter.proofs.Pairs.{later_pairs}
use Rattle.painter.proofs.pixels.put_clocks.Goals as goal

pub loop-clock-init : goal.loop-clock-init
loop-clock-init c = record {
  bytes = none_put c.args.at (λ (k : ℕ). ink_pixels c.args.inks.now c.args.line.now (c.args.x + 4 * k)) c.args.room.now;
  size = refl;
}

pub put_clock-requires-clause-pairs : goal.put_clock-requires-clause-pairs
put_clock-requires-clause-pairs c paired = later_pairs c.args.line.now c.args.x c.loop-clock.clock (c.requires.pairs paired)

pub put_clock-requires-clause-room : goal.put_clock-requires-clause-room
put_clock-requires-clause-room c = omega (arith, c.requires.room, c.loop-clock.invariant.size, c.loop-clock-test.true)

pub loop-clock-preserved : goal.loop-clock-preserved
loop-clock-preserved c = record {
  bytes = one_put c.args.at c.loop-clock.clock (c.args.at + 12 * c.loop-clock.clock)
      (λ (k : ℕ). ink_pixels c.args.inks.now c.args.line.now (c.args.x + 4 * k))
      (take c.args.at c.args.room.now) c.loop-clock.room c.put_clock.new.room _ refl
      c.loop-clock.invariant.bytes c.put_clock.ensures.bytes refl;
  size = c.put_clock.ensures.size ∙ c.loop-clock.invariant.size;
}

pub returns-clause-bytes : goal.returns-clause-bytes
returns-clause-bytes c =
    let last : c.loop-clock.clock ≡ c.args.count = omega (arith, c.loop-clock-test.false, c.loop-clock.auto.clock-end) in
    subst (λ (n : ℕ). take (c.args.at + 12 * n) c.loop-clock.room
    ≡ take c.args.at c.args.room.now ++ bytes_of_clocks (λ (k : ℕ). ink_pixels c.args.inks.now c.args.line.now (c.args.x + 4 * k)) n)
    last c.loop-clock.invariant.bytes
