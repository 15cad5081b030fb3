use Rattle.std.proofs.Common.{◌≡◌, ◌≤◌, ◌-◌, Some}
use Rattle.serial_model.specs.PlaneFetch.{IsLastUnit}
use Rattle.bitplane_dma.specs.Rules.{rules_of}
use Rattle.chip_set.specs.Quiet.{fetching_in, with_fetching}
use Rattle.quiet_clocks.specs.FetchClocks.{fetching_on}
use Rattle.clock_loop.specs.code.Fetches.{with_fetches}
use Rattle.clock_loop.proofs.fetches.fetch_slots.Given as goal

-- the fetches of the clocks passed were made
abbrev pub invariant-loop-passed : goal.invariant-loop-passed
invariant-loop-passed l = record {
  most : l.passed ≤ l.clocks;
  chips : l.chips ≡ with_fetching (fetching_on l.passed l.beam (fetching_in l.initial.chips)) l.initial.chips;
  unit : l.chips.last ≡ Some l.start;
  begun : IsLastUnit l.chips.last;
  log : l.log ≡ with_fetches l.passed l.beam l.t (fetching_in l.initial.chips) l.initial.log;
  rules : l.rules ≡ rules_of l.beam.v l.chips.registers;
}

abbrev pub decreases-loop-passed : goal.decreases-loop-passed
decreases-loop-passed l = l.clocks - l.passed
