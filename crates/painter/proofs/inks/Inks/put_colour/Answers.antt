use Rattle.std.proofs.Common.{ℕ, ◌∙◌, ap}
use Rattle.serial_model.specs.Picture.{colour_bytes}
use Rattle.painter.specs.Inks.{two_pixels}
use Rattle.painter.proofs.Colours.{colour_put}
use Rattle.painter.proofs.inks.Inks.put_colour.Goals as goal

pub invariant_of-self : goal.invariant_of-self
invariant_of-self c = record {
  twos = λ k few.
      colour_put c.self.inside.palette c.self.inside.doubled c.args.number c.args.colour k c.twice-two.result c.twice-half.result
      c.self.told.0 c.self.told.1 c.requires few (c.self.invariant.twos k few) c.twice-two.ensures
      (c.twice-half.ensures ∙ ap (λ (n : ℕ). two_pixels (colour_bytes n)) c.half_of.ensures);
  numbers = c.self.invariant.numbers;
  pairs = c.self.invariant.pairs;
}
