use Rattle.std.proofs.Common.{◌∙◌, ℕ, ap}
use Rattle.serial_model.specs.Picture.{colour_bytes}
use Rattle.painter.specs.Inks.{ink, ink_number}
use Rattle.painter.specs.code.Pixels.{ink_at}
use Rattle.painter.proofs.pixels.ink_bytes.Goals as goal

pub returns : goal.returns
unfolding ink_at
returns c =
    let inks = c.args.inks.now in
    c.bytes.ensures
    ∙ ap (λ (n : ℕ). colour_bytes (ink inks.palette n)) (c.name.ensures.value ∙ ap (ink_number inks.con0 inks.con2) c.bits.ensures.value)
