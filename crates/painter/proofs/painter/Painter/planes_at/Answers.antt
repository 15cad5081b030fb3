use Rattle.std.proofs.Common.{◌∙◌, ℕ, sym, ap, arith}
use Rattle.painter.specs.Inks.{counted_bits}
use Rattle.painter.proofs.Showing.{row_counted}
use Rattle.painter.proofs.painter.Painter.planes_at.Goals as goal

pub returns : goal.returns
returns c p stands =
    c.counted_planes.ensures
    ∙ ap (λ (n : ℕ). counted_bits n c.bits.result) (c.con0.ensures ∙ sym stands.con0)
    ∙ ap (counted_bits p.con0) c.bits.ensures.value
    ∙ row_counted c.args.self.now.line p.loads c.args.x p.con0 stands.line (omega arith)
