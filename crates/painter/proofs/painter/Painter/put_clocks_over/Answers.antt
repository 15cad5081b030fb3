use Rattle.std.proofs.Common.{◌≡◌, ◌∙◌, ◌+◌, ◌*◌, ◌++◌, ℕ, take, subst, refl, arith}
use Rattle.painter.specs.code.PairOver.{pixels_over}
use Rattle.painter.specs.SpanParts.{bytes_of_clocks}
use Rattle.painter.proofs.Clocks.{none_put, one_put}
use Rattle.painter.proofs.painter.Painter.put_clocks_over.Goals as goal

pub loop-clock-init : goal.loop-clock-init
loop-clock-init c =
    let now = c.args.self.now in
    let steady = c.args.steady.now in
    record {
      bytes = none_put c.args.at (λ (k : ℕ). pixels_over now.inks now.line c.args.row.now steady.lone steady.attached (c.args.column + 2 * k))
          c.args.room.now;
      size = refl;
    }

pub put_clock_over-requires-clause-room : goal.put_clock_over-requires-clause-room
put_clock_over-requires-clause-room c = omega (arith, c.requires.room, c.loop-clock.invariant.size, c.loop-clock-test.true)

pub loop-clock-preserved : goal.loop-clock-preserved
loop-clock-preserved c =
    let now = c.args.self.now in
    let steady = c.args.steady.now in
    record {
      bytes = one_put c.args.at c.loop-clock.clock (c.args.at + 12 * c.loop-clock.clock)
          (λ (k : ℕ). pixels_over now.inks now.line c.args.row.now steady.lone steady.attached (c.args.column + 2 * k))
          (take c.args.at c.args.room.now) c.loop-clock.room c.put_clock_over.new.room _ refl
          c.loop-clock.invariant.bytes c.put_clock_over.ensures.bytes refl;
      size = c.put_clock_over.ensures.size ∙ c.loop-clock.invariant.size;
    }

pub returns-clause-bytes : goal.returns-clause-bytes
returns-clause-bytes c =
    let now = c.args.self.now in
    let steady = c.args.steady.now in
    let last : c.loop-clock.clock ≡ c.args.count = omega (arith, c.loop-clock-test.false, c.loop-clock.auto.clock-end) in
    subst (λ (n : ℕ). take (c.args.at + 12 * n) c.loop-clock.room
    ≡ take c.args.at c.args.room.now
    ++ bytes_of_clocks (λ (k : ℕ). pixels_over now.inks now.line c.args.row.now steady.lone steady.attached (c.args.column + 2 * k)) n)
    last c.loop-clock.invariant.bytes
