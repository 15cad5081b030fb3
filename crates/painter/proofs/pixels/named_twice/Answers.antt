use Rattle.std.proofs.Common.{◌∙◌, ℕ, ap}
use Rattle.serial_model.specs.Picture.{colour_bytes}
use Rattle.painter.specs.Inks.{ink, two_pixels}
use Rattle.painter.proofs.pixels.named_twice.Goals as goal

pub returns : goal.returns
returns c = c.two_pixels.ensures ∙ ap (λ (n : ℕ). two_pixels (colour_bytes (ink c.args.inks.now.palette n))) c.name.ensures.value
