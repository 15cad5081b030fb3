use Rattle.std.proofs.Common.{rules, ℕ, ap, ◌∙◌, FitsSigned}
use Rattle.std.specs.Int.{w16, cast_unsigned}
use Rattle.std.proofs.lemmas.Int.{to_z-of_z}
use Rattle.blitter_line.proofs.Walking.{end_is}
use Rattle.blitter_line.proofs.line.LineBlit.regs.Goals as goal

pub returns : goal.returns
returns c = λ s ws h.
    let b = c.args.self.now in
    let f : FitsSigned w16 b.point.sum = search rules in
    let low = c.cast_unsigned.ensures ∙ ap (cast_unsigned w16) (to_z-of_z w16 _ f) in
    ap (λ (n : ℕ). record b.start { cpt = b.point.at; dpt = b.point.at; aptl = n; cdat = b.source }) low ∙ end_is b s ws h
