-- The clocks so far counted come before the HSTART of each sprite so far.
use Rattle.std.proofs.Common.{◌≢◌, ◌≤◌, ◌<◌, ◌+◌, ◌%◌, ℕ, slice_index}
use Rattle.painter.proofs.sprite_state.SpriteState.clocks_before_start.Given as goal

abbrev pub invariant-loop-sprite : goal.invariant-loop-sprite
invariant-loop-sprite l = record {
  most : l.least ≤ l.count;
  before : (sprite k : ℕ) → sprite < l.sprite → k < l.least → slice_index l.self.pos sprite % 256 ≢ l.h + k;
}
