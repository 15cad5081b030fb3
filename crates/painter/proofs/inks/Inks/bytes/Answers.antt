use Rattle.std.proofs.Common.{◌∙◌, refl, ap}
use Rattle.serial_model.specs.Picture.{colour_bytes}
use Rattle.painter.specs.Inks.{InkRegisters, ink}
use Rattle.painter.proofs.inks.Inks.bytes.Goals as goal

pub returns : goal.returns
returns c =
    c.one_of.ensures (colour_bytes (ink c.self.inside.palette c.args.number)) refl (c.self.invariant.twos c.args.number c.requires)
    ∙ ap (λ (i : InkRegisters). colour_bytes (ink i.palette c.args.number)) c.self.view_is
