use Rattle.std.proofs.Common.{◌≡◌, ◌∙◌, ◌+◌, ◌*◌, ◌++◌, ℕ, take, subst, refl, sym, arith}
use Rattle.painter.specs.SpanParts.{bytes_of_clocks}
use Rattle.painter.proofs.Clocks.{none_put}
use Rattle.painter.proofs.Fills.{four_put}
use Rattle.painter.proofs.span.fill_blocks.Goals as goal

pub returns-then-blocks-eq0-clause-bytes : goal.returns-then-blocks-eq0-clause-bytes
returns-then-blocks-eq0-clause-bytes c =
    subst (λ (n : ℕ). take (c.args.at + 48 * n) c.args.room.now
    ≡ take c.args.at c.args.room.now ++ bytes_of_clocks (λ (k : ℕ). c.args.pixels.now) (4 * n))
    (sym c.if-blocks-eq0.true) (none_put c.args.at (λ (k : ℕ). c.args.pixels.now) c.args.room.now)

pub loop-block-init : goal.loop-block-init
loop-block-init c = record {
  bytes = none_put c.args.at (λ (k : ℕ). c.args.pixels.now) c.args.room.now;
  size = refl;
}

pub put_four-requires : goal.put_four-requires
put_four-requires c = omega (arith, c.requires, c.loop-block.invariant.size, c.loop-block-test.true)

pub loop-block-preserved : goal.loop-block-preserved
loop-block-preserved c = record {
  bytes = four_put c.args.at c.loop-block.block (c.args.at + 48 * c.loop-block.block) c.args.pixels.now
      (take c.args.at c.args.room.now) c.loop-block.room c.put_four.new.room _ refl
      c.loop-block.invariant.bytes c.put_four.ensures.bytes refl;
  size = c.put_four.ensures.size ∙ c.loop-block.invariant.size;
}

pub returns-clause-bytes : goal.returns-clause-bytes
returns-clause-bytes c =
    let last : c.loop-block.block ≡ c.args.blocks = omega (arith, c.loop-block-test.false, c.loop-block.auto.block-end) in
    subst (λ (n : ℕ). take (c.args.at + 48 * n) c.loop-block.room
    ≡ take c.args.at c.args.room.now ++ bytes_of_clocks (λ (k : ℕ). c.args.pixels.now) (4 * n))
    last c.loop-block.invariant.bytes
