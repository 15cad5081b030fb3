use Rattle.std.proofs.Common.{ℕ, ◌+◌, ◌*◌, ◌∙◌, sym, arith}
use Rattle.plane_rows.proofs.Rows.{zeros}
use Rattle.plane_rows.proofs.row.Row.new.Goals as goal

pub invariant_of-result : goal.invariant_of-result
invariant_of-result c = record {
  few = λ (x : ℕ). omega (arith, zeros 1024 x);
  within = omega arith;
  blank = λ (x : ℕ) h. zeros 1024 x;
  pairs = λ is (column : ℕ). zeros 1024 (2 * column) ∙ sym (zeros 1024 (2 * column + 1));
}
