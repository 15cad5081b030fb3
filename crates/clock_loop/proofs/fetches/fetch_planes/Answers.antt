use Rattle.std.proofs.Common.{arith, refl}
use Rattle.clock_loop.specs.code.Fetches.{with_fetches}
use Rattle.clock_loop.proofs.FetchLaws.{no_clock_of_planes}
use Rattle.clock_loop.proofs.UnitLaws.{units_then, units_noted}
use Rattle.clock_loop.proofs.fetches.fetch_planes.Goals as goal

pub loop-passed-init : goal.loop-passed-init
unfolding with_fetches
loop-passed-init g c = record {
  most = omega arith;
  machine = no_clock_of_planes c.args.machine.now;
  log = refl;
  rules = c.fetch_rules-rules.ensures;
}

pub loop-passed-preserved : goal.loop-passed-preserved
loop-passed-preserved g c = record {
  most = omega (arith, c.loop-passed.invariant.most, c.in_ok-passed.ensures.most);
  machine = units_then c.loop-passed.passed c.in_ok-passed.field-0 c.args.machine.now c.loop-passed.machine _ c.loop-passed.invariant.machine
      c.in_ok-passed.ensures.machine;
  log = units_noted c.loop-passed.passed c.in_ok-passed.field-0 c.args.machine.now c.loop-passed.machine c.args.log.now c.loop-passed.log _
      c.loop-passed.invariant.machine c.loop-passed.invariant.log c.in_ok-passed.ensures.log;
  rules = c.in_ok-passed.ensures.same;
}
