-- The blocks so far are put.
use Rattle.std.proofs.Common.{◌≡◌, ℕ, ◌+◌, ◌*◌, ◌++◌, length, take}
use Rattle.painter.specs.SpanParts.{bytes_of_clocks}
use Rattle.painter.proofs.span.fill_blocks.Given as goal

abbrev pub invariant-loop-block : goal.invariant-loop-block
invariant-loop-block l = record {
  bytes : take (l.at + 48 * l.block) l.room ≡ take l.at l.initial.room ++ bytes_of_clocks (λ (k : ℕ). l.pixels) (4 * l.block);
  size : length l.room ≡ length l.initial.room;
}
