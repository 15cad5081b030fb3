-- The places before x are blank, and the others as they were.
use Rattle.std.proofs.Common.{◌≡◌, ◌≤◌, ℕ, length, slice_index}
use Rattle.plane_rows.specs.Row.{cut_off}
use Rattle.plane_rows.proofs.row.wipe.Given as goal

abbrev pub invariant-loop-x : goal.invariant-loop-x
invariant-loop-x l = record {
  long : length l.shown ≡ 1024;
  wiped : (k : ℕ) → slice_index l.shown k ≡ cut_off l.initial.shown l.from l.x k;
  none : l.end ≤ l.from → l.x ≡ l.from;
}
