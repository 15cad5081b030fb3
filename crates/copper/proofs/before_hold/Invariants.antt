use Rattle.std.proofs.Common.{ℕ, ◌≡◌, ◌<◌, ◌%◌, ◌+◌, ◌-◌}
use Rattle.serial_model.specs.Beam.{later_beam}
use Rattle.copper.specs.Quiet.{HoldsNot}
use Rattle.copper.proofs.before_hold.Given as goal

-- at the clocks passed the comparison held at no even one, and the next of them is even
abbrev pub invariant-loop-clocks : goal.invariant-loop-clocks
invariant-loop-clocks l = record {
  even : (l.beam.h + l.clocks) % 2 ≡ 0;
  none : (k : ℕ) → k < l.clocks → HoldsNot (later_beam k l.beam) l.busy l.first l.second;
}

abbrev pub decreases-loop-clocks : goal.decreases-loop-clocks
decreases-loop-clocks l = l.most - l.clocks
