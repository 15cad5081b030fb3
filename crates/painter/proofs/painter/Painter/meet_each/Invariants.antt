-- What the clocks so far gather.
use Rattle.std.proofs.Common.{◌≡◌, bit_or}
use Rattle.serial_model.specs.declared.picture.Denise.{Denise}
use Rattle.painter.specs.Painter.{IsPainterOf}
use Rattle.painter.specs.SpanParts.{quiet_gathered}
use Rattle.painter.proofs.painter.Painter.meet_each.Given as goal

abbrev pub invariant-loop-clock : goal.invariant-loop-clock
invariant-loop-clock l =
    (p : Denise) → IsPainterOf l.self p → l.clx ≡ bit_or l.initial.clx (quiet_gathered l.v l.h l.clock p)
