use Rattle.std.proofs.Common.{◌∙◌, Bool, sym, ap, ◌&&◌}
use Rattle.std.proofs.lemmas.Bool.{false≢true}
use Rattle.painter.specs.code.SpriteState.{is_known_idle}
use Rattle.painter.proofs.painter.Painter.is_backdrop.Goals as goal

pub returns-then-is_blank-clause-known : goal.returns-then-is_blank-clause-known
returns-then-is_blank-clause-known c =
    c.is_idle.ensures.known
    ∙ ap (λ (b : Bool). b && is_known_idle c.args.h c.args.self.now.sprites) (sym c.if-is_blank.true ∙ c.is_blank.ensures.known)

pub returns-then-is_blank-clause-idle : goal.returns-then-is_blank-clause-idle
returns-then-is_blank-clause-idle c = c.is_idle.ensures.idle

pub returns-then-is_blank-clause-pixels : goal.returns-then-is_blank-clause-pixels
returns-then-is_blank-clause-pixels c e = c.is_blank.ensures.pixels c.if-is_blank.true

pub returns-then-is_blank-clause-clx : goal.returns-then-is_blank-clause-clx
returns-then-is_blank-clause-clx c e = c.is_blank.ensures.clx c.if-is_blank.true

pub returns-else-is_blank-clause-known : goal.returns-else-is_blank-clause-known
returns-else-is_blank-clause-known c =
    c.if-is_blank.false
    ∙ ap (λ (b : Bool). b && is_known_idle c.args.h c.args.self.now.sprites) (sym c.if-is_blank.false ∙ c.is_blank.ensures.known)

pub returns-else-is_blank-clause-idle : goal.returns-else-is_blank-clause-idle
returns-else-is_blank-clause-idle c e = absurd (false≢true (sym c.if-is_blank.false ∙ e))

pub returns-else-is_blank-clause-pixels : goal.returns-else-is_blank-clause-pixels
returns-else-is_blank-clause-pixels c e = absurd (false≢true (sym c.if-is_blank.false ∙ e))

pub returns-else-is_blank-clause-clx : goal.returns-else-is_blank-clause-clx
returns-else-is_blank-clause-clx c e = absurd (false≢true (sym c.if-is_blank.false ∙ e))
