use Rattle.std.proofs.Common.{◌-◌, ◌≡◌, ◌≤◌}
use Rattle.serial_model.specs.Side.{later_side}
use Rattle.serial_model.proofs.side.Side.skip.Given as goal

-- as many ticks as clocks passed
abbrev pub invariant-loop-passed : goal.invariant-loop-passed
invariant-loop-passed g l = record {
  most : l.passed ≤ l.clocks;
  later : g.Self.Side.seen l.self ≡ later_side l.passed l.beam l.dmacon (g.Self.Side.seen l.initial.self);
}

abbrev pub decreases-loop-passed : goal.decreases-loop-passed
decreases-loop-passed g l = l.clocks - l.passed
