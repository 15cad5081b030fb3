use Rattle.std.proofs.Common.{◌≡◌, ◌≤◌, ◌-◌}
use Rattle.quiet_clocks.specs.Plan.{unit_on}
use Rattle.bitplane_dma.proofs.unit_after.Given as goal

-- the unit is the last one by the clocks passed
abbrev pub invariant-loop-passed : goal.invariant-loop-passed
invariant-loop-passed l = record {
  most : l.passed ≤ l.clocks;
  unit : l.unit ≡ unit_on l.passed l.beam l.regs l.fn.last;
}

abbrev pub decreases-loop-passed : goal.decreases-loop-passed
decreases-loop-passed l = l.clocks - l.passed
