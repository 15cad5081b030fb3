-- The values before k are laid.
use Rattle.std.proofs.Common.{◌≡◌, ℕ, length, slice_index}
use Rattle.sprite_rows.specs.Laid.{with_even, laid_byte}
use Rattle.sprite_rows.proofs.laying.lay_even.Given as goal

abbrev pub invariant-loop-k : goal.invariant-loop-k
invariant-loop-k l = record {
  long : length l.row ≡ 512;
  bytes : (j : ℕ) → slice_index l.row j ≡ laid_byte with_even l.initial.row l.x l.laid l.k j;
}
