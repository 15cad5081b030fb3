use Rattle.std.proofs.Common.{◌∙◌, ◌+◌, sym, subst, drop, arith}
use Rattle.band_draw.specs.code.Due.{IsCounted}
use Rattle.band_draw.proofs.Dues.{counted_none, counted_more, left_next}
use Rattle.band_draw.proofs.due.due_from.Goals as goal

pub loop-sets-init : goal.loop-sets-init
loop-sets-init c = (
  counted_none c.args.beam.now c.args.script.now (drop c.args.from.next c.args.script.now) c.requires.screen c.requires.left,
  c.requires.within,
  omega arith,
)

pub loop-sets-preserved : goal.loop-sets-preserved
loop-sets-preserved c = (
  subst (λ k. IsCounted c.args.beam.now c.args.script.now (drop (c.loop-sets.next + 1) c.args.script.now) (c.loop-sets.sets + k))
      (sym c.set_count-sets.ensures.count)
      (counted_more c.args.beam.now c.args.script.now c.loop-sets.next c.loop-sets.sets c.requires.screen c.loop-sets.invariant.0
      (sym c.is_next_due.ensures.due ∙ c.loop-sets-test.true)),
  omega (arith, c.is_next_due.ensures.there c.loop-sets-test.true),
  omega (arith, c.set_count-sets.ensures.few, c.loop-sets.invariant.2),
)

pub returns-clause-sets : goal.returns-clause-sets
returns-clause-sets c =
    (left_next c.args.beam.now c.args.script.now c.loop-sets.next c.loop-sets.sets c.requires.screen c.loop-sets.invariant.0
    (sym c.is_next_due.ensures.due ∙ c.loop-sets-test.false)).0

pub returns-clause-left : goal.returns-clause-left
returns-clause-left c =
    (left_next c.args.beam.now c.args.script.now c.loop-sets.next c.loop-sets.sets c.requires.screen c.loop-sets.invariant.0
    (sym c.is_next_due.ensures.due ∙ c.loop-sets-test.false)).1
