-- The clocks so far are put, and their last pixel is held.
use Rattle.std.proofs.Common.{◌≡◌, ℕ, ◌+◌, ◌*◌, ◌++◌, length, take}
use Rattle.painter.specs.code.Held.{IsHeld}
use Rattle.painter.specs.code.Pixels.{modified_along, all_modified}
use Rattle.painter.specs.SpanParts.{bytes_of_clocks}
use Rattle.painter.proofs.pixels.put_modified_each.Given as goal

abbrev pub invariant-loop-clock : goal.invariant-loop-clock
invariant-loop-clock l = record {
  bytes : (colour : ℕ) → IsHeld l.fn.held colour → take (l.at + 12 * l.clock) l.room
      ≡ take l.at l.initial.room ++ bytes_of_clocks (all_modified l.painter.inks l.painter.line l.x colour) l.clock;
  held : (colour : ℕ) → IsHeld l.fn.held colour → IsHeld l.last (modified_along l.painter.inks l.painter.line l.x colour (4 * l.clock));
  size : length l.room ≡ length l.initial.room;
}
