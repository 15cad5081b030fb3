use Rattle.std.proofs.Common.{◌≡◌, sym, ap, ◌∙◌, subst, arith}
use Rattle.band_draw.specs.Direct.{DirectValue, AreRight}
use Rattle.band_draw.proofs.Keeping.{right_pushed, small_number}
use Rattle.band_draw.proofs.direct.DirectRaster.submit.Goals as goal

pub overflow_add-self : goal.overflow_add-self
overflow_add-self g c =
    let next : c.args.job.number ≡ c.self.inside.next =
    c.requires.number ∙ sym (ap (λ (d : DirectValue g.row.S.Denot). d.next) c.self.view_is) in
    omega (arith, next, small_number g.S.Side.seen c.deref.result.now c.args.job c.deref.ensures c.script-good.ensures.good c.requires.right)

pub invariant_of-self : goal.invariant_of-self
invariant_of-self g c = record {
  places = omega (arith, c.self.invariant.places, c.push-pushed.ensures.capacity);
  right =
      subst (AreRight g.S.Side.seen) (sym c.push-pushed.ensures.items)
      (right_pushed g.S.Side.seen _ c.self.inside.jobs.items c.args.job c.self.invariant.right c.requires.right);
}
