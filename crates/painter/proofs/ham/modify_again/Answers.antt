use Rattle.std.proofs.Common.{ℕ, ◌∙◌, sym, ap, subst}
use Rattle.priority_ham.specs.PixelColour.{modified}
use Rattle.painter.specs.code.Held.{IsHeld}
use Rattle.painter.proofs.Colours.{modified_again}
use Rattle.painter.proofs.ham.modify_again.Goals as goal

pub returns-then-bits-before : goal.returns-then-bits-before
returns-then-bits-before c colour is =
    let palette = c.args.inks.now.palette in
    let held = modified c.args.before colour c.args.inks.now.palette in
    subst (IsHeld c.args.held)
    (sym (modified_again c.args.before colour palette) ∙ ap (λ (n : ℕ). modified n held palette) (sym c.if-bits-before.true)) is

pub returns-else-bits-before : goal.returns-else-bits-before
returns-else-bits-before c colour is = c.modify.ensures (modified c.args.before colour c.args.inks.now.palette) is
