use Rattle.std.proofs.Common.{◌∙◌, ap, refl, arith}
use Rattle.quiet_clocks.specs.Plan.{unit_on}
use Rattle.serial_model.specs.Beam.{later_beam}
use Rattle.quiet_clocks.proofs.IdleClocks.{unit_of_two}
use Rattle.bitplane_dma.proofs.unit_after.Goals as goal

pub loop-passed-init : goal.loop-passed-init
unfolding unit_on
loop-passed-init c = record {
  most = omega arith;
  unit = refl;
}

pub loop-passed-preserved : goal.loop-passed-preserved
loop-passed-preserved c = record {
  most = omega (arith, c.pass_unit-passed.ensures.most, c.loop-passed.invariant.most);
  unit = c.pass_unit-passed.ensures.unit
      ∙ ap (λ last. unit_on c.pass_unit-passed.result (later_beam c.loop-passed.passed c.args.beam.now) c.args.regs.now last)
      c.loop-passed.invariant.unit
      ∙ unit_of_two c.loop-passed.passed c.pass_unit-passed.result c.args.beam.now c.args.regs.now c.args.last;
}
