use Rattle.std.proofs.Common.{◌≡◌, ◌≤◌, ◌-◌}
use Rattle.bitplane_dma.specs.Rules.{rules_of}
use Rattle.chip_set.specs.Quiet.{fetching_in}
use Rattle.clock_loop.specs.code.Fetches.{with_fetches, clocks_of_planes}
use Rattle.clock_loop.proofs.fetches.fetch_planes.Given as goal

-- the planes' part of the clocks passed was made
abbrev pub invariant-loop-passed : goal.invariant-loop-passed
invariant-loop-passed g l = record {
  most : l.passed ≤ l.clocks;
  machine : l.machine ≡ clocks_of_planes l.passed l.initial.machine;
  log : l.log ≡ with_fetches l.passed l.initial.machine.beam l.initial.machine.t (fetching_in l.initial.machine.chips) l.initial.log;
  rules : l.rules ≡ rules_of l.machine.beam.v l.machine.chips.registers;
}

abbrev pub decreases-loop-passed : goal.decreases-loop-passed
decreases-loop-passed g l = l.clocks - l.passed
