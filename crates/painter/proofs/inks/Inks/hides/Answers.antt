use Rattle.std.proofs.Common.{◌∙◌, ℕ, nat_le, ap}
use Rattle.priority_ham.specs.PixelColour.{hides}
use Rattle.painter.specs.Inks.{InkRegisters, counted_bits}
use Rattle.painter.proofs.Colours.{hidden_first}
use Rattle.painter.proofs.inks.Inks.hides.Goals as goal

pub returns : goal.returns
returns c =
    let bits : ℕ = c.args.bits in
    let pair : ℕ = c.args.pair in
    ap (λ (n : ℕ). nat_le n pair) (c.self.invariant.pairs bits c.requires.planes)
    ∙ hidden_first c.self.inside.con0 c.self.inside.con2 bits pair c.requires.four
    ∙ ap (λ (i : InkRegisters). hides i.con0 i.con2 (counted_bits i.con0 bits) pair) c.self.view_is
