-- The colours below `number` are taken over.
use Rattle.std.proofs.Common.{◌≡◌, ◌<◌, ℕ, length, slice_index}
use Rattle.painter.proofs.inks.Inks.of_registers.Given as goal

abbrev pub invariant-loop-number : goal.invariant-loop-number
invariant-loop-number l = record {
  long : length l.inks.palette ≡ 32;
  taken : (k : ℕ) → k < l.number → slice_index l.inks.palette k ≡ slice_index l.palette k;
  con0 : l.inks.con0 ≡ l.con0;
  con2 : l.inks.con2 ≡ l.con2;
}
