use Rattle.std.proofs.Common.{refl, arith}
use Rattle.painter.proofs.LaidOut.{laid_more, laid_less}
use Rattle.painter.proofs.sprite_state.SpriteState.begin_words_of.Goals as goal

pub invariant_of-self : goal.invariant_of-self
invariant_of-self c =
    let before = c.self.inside in
    rw (c.start.ensures, c.max-self-inside.ensures)
    (laid_less before.quiet_from before.exact_from c.args.column before.rows before.runs c.args.sprite _ c.self.invariant
    c.requires.sprite refl c.requires.place)

pub invariant_of-self-else-column-self : goal.invariant_of-self-else-column-self
invariant_of-self-else-column-self c =
    let before = c.self.inside in
    rw (c.start.ensures, c.max-self-inside.ensures)
    (laid_more before.quiet_from before.exact_from c.args.column before.rows c.start-else-column-self.new.self before.runs c.args.sprite _
    c.self.invariant c.requires.sprite refl c.requires.place (omega arith) c.start-else-column-self.ensures.here)
