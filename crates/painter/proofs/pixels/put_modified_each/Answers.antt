use Rattle.std.proofs.Common.{◌≡◌, ◌∙◌, ◌+◌, ◌*◌, ◌++◌, ℕ, take, subst, refl, arith}
use Rattle.painter.specs.code.Held.{IsHeld}
use Rattle.painter.specs.code.Pixels.{modified_along, all_modified}
use Rattle.painter.specs.SpanParts.{bytes_of_clocks}
use Rattle.painter.proofs.Clocks.{none_put, one_put}
use Rattle.painter.proofs.Modifying.{none_along, clock_more}
use Rattle.painter.proofs.Pairs.{later_pairs}
use Rattle.painter.proofs.pixels.put_modified_each.Goals as goal

pub loop-clock-init : goal.loop-clock-init
loop-clock-init c = record {
  bytes = λ colour is. none_put c.args.at (all_modified c.args.painter.now.inks c.args.painter.now.line c.args.x colour) c.args.room.now;
  held = λ colour is. subst (IsHeld c.args.held) (none_along c.args.painter.now.inks c.args.painter.now.line c.args.x colour) is;
  size = refl;
}

pub modified_clock-last-requires-clause-pairs : goal.modified_clock-last-requires-clause-pairs
modified_clock-last-requires-clause-pairs c paired =
    later_pairs c.args.painter.now.line c.args.x c.loop-clock.clock (c.is_paired_from-paired.ensures paired)

pub put-requires : goal.put-requires
put-requires c = omega (arith, c.requires.room, c.loop-clock.invariant.size, c.loop-clock-test.true)

pub loop-clock-preserved : goal.loop-clock-preserved
loop-clock-preserved c = record {
  bytes = λ colour is.
      one_put c.args.at c.loop-clock.clock (c.args.at + 12 * c.loop-clock.clock) (all_modified c.args.painter.now.inks c.args.painter.now.line c.args.x colour)
      (take c.args.at c.args.room.now) c.loop-clock.room c.put.new.room c.modified_clock-last.new.into refl
      (c.loop-clock.invariant.bytes colour is) c.put.ensures.bytes
      (c.modified_clock-last.ensures.pixels (modified_along c.args.painter.now.inks c.args.painter.now.line c.args.x colour (4 * c.loop-clock.clock))
      (c.loop-clock.invariant.held colour is));
  held = λ colour is.
      subst (IsHeld c.modified_clock-last.result) (clock_more c.args.painter.now.inks c.args.painter.now.line c.args.x colour c.loop-clock.clock)
      (c.modified_clock-last.ensures.held (modified_along c.args.painter.now.inks c.args.painter.now.line c.args.x colour (4 * c.loop-clock.clock))
      (c.loop-clock.invariant.held colour is));
  size = c.put.ensures.size ∙ c.loop-clock.invariant.size;
}

pub returns-clause-bytes : goal.returns-clause-bytes
returns-clause-bytes c colour is =
    let last : c.loop-clock.clock ≡ c.args.count = omega (arith, c.loop-clock-test.false, c.loop-clock.auto.clock-end) in
    subst (λ (n : ℕ). take (c.args.at + 12 * n) c.loop-clock.room
    ≡ take c.args.at c.args.room.now ++ bytes_of_clocks (all_modified c.args.painter.now.inks c.args.painter.now.line c.args.x colour) n)
    last (c.loop-clock.invariant.bytes colour is)

pub returns-clause-held : goal.returns-clause-held
returns-clause-held c colour is =
    let last : c.loop-clock.clock ≡ c.args.count = omega (arith, c.loop-clock-test.false, c.loop-clock.auto.clock-end) in
    subst (λ (n : ℕ). IsHeld c.loop-clock.last (modified_along c.args.painter.now.inks c.args.painter.now.line c.args.x colour (4 * n)))
    last (c.loop-clock.invariant.held colour is)
