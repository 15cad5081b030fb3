use Rattle.std.proofs.Common.{◌∙◌, ap, arith}
use Rattle.serial_model.specs.Picture.{colour_bytes}
use Rattle.painter.specs.Inks.{InkRegisters, ink, two_pixels}
use Rattle.painter.proofs.inks.Inks.backdrop_twice.Goals as goal

pub returns : goal.returns
returns c =
    c.self.invariant.twos 0 (omega arith)
    ∙ ap (λ (i : InkRegisters). two_pixels (colour_bytes (ink i.palette 0))) c.self.view_is
