use Rattle.std.proofs.Common.{◌∙◌, ℕ, ap, subst}
use Rattle.priority_ham.specs.PixelColour.{modified}
use Rattle.painter.specs.code.Held.{IsHeld}
use Rattle.painter.specs.Inks.{ink_number}
use Rattle.painter.specs.code.Pixels.{modified_at}
use Rattle.painter.proofs.pixels.show_modified.Goals as goal

pub returns-clause-held : goal.returns-clause-held
unfolding modified_at
returns-clause-held c colour is =
    let inks = c.args.inks.now in
    let palette = inks.palette in
    let line = c.args.line.now in
    let before = c.name-name.result in
    let next : ℕ = modified_at c.args.inks.now c.args.line.now c.args.x colour in
    subst (λ (n : ℕ). IsHeld c.modify_again-second.result (modified n next palette))
    (c.name.ensures.value ∙ ap (ink_number inks.con0 inks.con2) c.bits-2.ensures.value)
    (subst (λ (n : ℕ). IsHeld c.modify_again-second.result (modified c.name.result (modified n colour palette) palette))
    (c.name-name.ensures.value ∙ ap (ink_number inks.con0 inks.con2) c.bits.ensures.value)
    (c.modify_again-second.ensures colour (c.modify-first.ensures colour is)))

pub returns-clause-pixels : goal.returns-clause-pixels
unfolding modified_at
returns-clause-pixels c colour is =
    let inks = c.args.inks.now in
    let palette = inks.palette in
    let line = c.args.line.now in
    let first : IsHeld c.modify-first.result (modified_at inks line c.args.x colour) =
    subst (λ (n : ℕ). IsHeld c.modify-first.result (modified n colour palette))
    (c.name-name.ensures.value ∙ ap (ink_number inks.con0 inks.con2) c.bits.ensures.value) (c.modify-first.ensures colour is) in
    rw (c.bytes_of.ensures ∙ first.bytes, c.bytes_of-2.ensures ∙ (returns-clause-held c colour is).bytes)
