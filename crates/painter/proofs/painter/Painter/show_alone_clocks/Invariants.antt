-- The clocks so far are shown.
use Rattle.std.proofs.Common.{◌≡◌, ◌+◌, ◌*◌, ℕ, bit_and, length, take}
use Rattle.serial_model.specs.declared.picture.Denise.{Denise}
use Rattle.painter.specs.Painter.{IsPainterOf}
use Rattle.painter.specs.Span.{IsSpan}
use Rattle.painter.proofs.painter.Painter.show_alone_clocks.Given as goal

abbrev pub invariant-loop-shown : goal.invariant-loop-shown
invariant-loop-shown l = record {
  given : (p : Denise) (clx : ℕ) → IsPainterOf l.initial.self p → bit_and clx l.steady.reach ≡ l.steady.reach →
      IsSpan l.from.system l.from.v l.from.h l.shown p l.self (take l.filled l.initial.room) (take (l.filled + 12 * l.shown) l.room) clx clx;
  window : l.self.window ≡ l.initial.self.window;
  sprites : l.self.sprites ≡ l.initial.self.sprites;
  line : l.self.line ≡ l.initial.self.line;
  size : length l.room ≡ length l.initial.room;
}
