-- The bytes before x are written.
use Rattle.std.proofs.Common.{◌≡◌, ◌<◌, ℕ, length, slice_index}
use Rattle.plane_rows.specs.Line.{three_planes}
use Rattle.plane_rows.proofs.kept_loads.bytes_of.Given as goal

abbrev pub invariant-loop-x : goal.invariant-loop-x
invariant-loop-x l = record {
  long : length l.bytes ≡ 1024;
  written : (k : ℕ) → k < l.x → slice_index l.bytes k ≡ three_planes l.first k l.loads;
}
