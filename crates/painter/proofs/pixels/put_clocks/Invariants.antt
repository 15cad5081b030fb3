-- The clocks so far are put.
use Rattle.std.proofs.Common.{◌≡◌, ℕ, ◌+◌, ◌*◌, ◌++◌, length, take}
use Rattle.painter.specs.SpanParts.{bytes_of_clocks, ink_pixels}
use Rattle.painter.proofs.pixels.put_clocks.Given as goal

abbrev pub invariant-loop-clock : goal.invariant-loop-clock
invariant-loop-clock l = record {
  bytes : take (l.at + 12 * l.clock) l.room
      ≡ take l.at l.initial.room ++ bytes_of_clocks (λ (k : ℕ). ink_pixels l.inks l.line (l.x + 4 * k)) l.clock;
  size : length l.room ≡ length l.initial.room;
}
