use Rattle.std.proofs.Common.{◌≡◌}
use Rattle.m68k_exec.specs.Meaning.{numbers_left}
use Rattle.m68k_exec.proofs.lists.take_number.Given as goal

-- what was passed over are clear bits
abbrev pub invariant-loop-left : goal.invariant-loop-left
invariant-loop-left l = record {
  mask : l.left.mask ≡ l.initial.left.mask;
  numbers : numbers_left l.initial.left ≡ numbers_left l.left;
}

abbrev pub decreases-loop-left : goal.decreases-loop-left
decreases-loop-left l = l.left.bits
