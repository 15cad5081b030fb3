use Rattle.std.proofs.Common.{◌≡◌, ◌<◌, ◌+◌, ℕ, length, slice_index}
use Rattle.planes.specs.PlaneBit.{all_bits}
use Rattle.planes.proofs.loads.plane_span.Given as goal

-- the positions so far have their bits
abbrev pub invariant-loop-i : goal.invariant-loop-i
invariant-loop-i l = record {
  bits : (j : ℕ) → j < l.i → slice_index l.into j ≡ all_bits (l.x + j) l.count l.l;
  size : length l.into ≡ length l.initial.into;
}
