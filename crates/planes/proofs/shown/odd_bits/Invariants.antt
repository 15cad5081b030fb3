-- No load from `at` on has started.
use Rattle.std.proofs.Common.{◌≡◌, ◌≤◌, length, drop, None}
use Rattle.planes.specs.PlaneBit.{shown_load}
use Rattle.planes.proofs.shown.odd_bits.Given as goal

abbrev pub invariant-loop-at : goal.invariant-loop-at
invariant-loop-at l = (l.at ≤ length l.loads) × (shown_load 1 l.x (drop l.at l.loads) ≡ None)

abbrev pub decreases-loop-at : goal.decreases-loop-at
decreases-loop-at l = l.at
