use Rattle.std.proofs.Common.{◌∙◌, ℕ, ap}
use Rattle.serial_model.specs.Picture.{colour_bytes}
use Rattle.painter.specs.Inks.{ink, ink_number, two_pixels}
use Rattle.painter.specs.code.Pixels.{ink_at}
use Rattle.painter.proofs.pixels.two_inks.Goals as goal

pub returns : goal.returns
unfolding ink_at
returns c =
    let inks = c.args.inks.now in
    c.two_pixels.ensures
    ∙ ap (λ (n : ℕ). two_pixels (colour_bytes (ink inks.palette n))) (c.name.ensures.value ∙ ap (ink_number inks.con0 inks.con2) c.bits.ensures.value)
