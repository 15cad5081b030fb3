-- The clocks so far are put.
use Rattle.std.proofs.Common.{◌≡◌, ℕ, ◌+◌, ◌*◌, ◌++◌, length, take}
use Rattle.painter.specs.SpanParts.{bytes_of_clocks}
use Rattle.painter.proofs.span.fill_each.Given as goal

abbrev pub invariant-loop-clock : goal.invariant-loop-clock
invariant-loop-clock l = record {
  bytes : take (l.at + 12 * l.clock) l.room ≡ take l.at l.initial.room ++ bytes_of_clocks (λ (k : ℕ). l.pixels) l.clock;
  size : length l.room ≡ length l.initial.room;
}
