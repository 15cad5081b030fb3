use Rattle.std.proofs.Common.{◌+◌, refl, arith, ◌∙◌}
use Rattle.std.proofs.lemmas.List.{length-set}
use Rattle.planes.specs.PlaneBit.{all_bits}
use Rattle.planes.proofs.Spanning.{filled_more}
use Rattle.planes.proofs.loads.plane_span.Goals as goal

pub loop-i-init : goal.loop-i-init
loop-i-init c = record { bits = λ j below. absurd (omega arith); size = refl }

pub loop-i-preserved : goal.loop-i-preserved
loop-i-preserved c = record {
  bits = filled_more (λ j. all_bits (c.args.x + j) c.args.count c.args.l.now) c.loop-i.into c.loop-i.i c.plane_bits.result
      c.loop-i.invariant.bits c.plane_bits.ensures.value (omega (arith, c.loop-i.invariant.size, c.loop-i-test.true));
  size = length-set c.loop-i.into c.loop-i.i c.plane_bits.result ∙ c.loop-i.invariant.size;
}

pub returns-clause-bits : goal.returns-clause-bits
returns-clause-bits c i below = c.loop-i.invariant.bits i (omega (arith, c.loop-i-test.false))
