use Rattle.std.proofs.Common.{◌≡◌, ◌∙◌, ap, sym, Some, arith}
use Rattle.serial_model.specs.PlaneFetch.{last_unit_at}
use Rattle.bitplane_dma.proofs.Quiet.{quiet_in_unit}
use Rattle.bitplane_dma.proofs.Fetcher.quiet.Goals as goal

pub returns-in-Some-clause-quiet : goal.returns-in-Some-clause-quiet
returns-in-Some-clause-quiet c k below =
    let is : last_unit_at c.args.beam.now c.args.regs.now c.args.self.now ≡ Some c.in-Some.start =
    ap (λ last. last_unit_at c.args.beam.now c.args.regs.now last) (sym c.self.view_is) ∙ sym c.unit_now.ensures ∙ c.in-Some.is in
    quiet_in_unit k c.in-Some.start c.args.beam.now c.args.regs.now c.args.self.now is c.requires.inner c.if-start-beam.true
    (omega (arith, below, c.before_fetch.ensures.within)) (c.before_fetch.ensures.none k below)
