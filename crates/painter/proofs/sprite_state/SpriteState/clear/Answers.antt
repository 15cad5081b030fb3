use Rattle.painter.proofs.LaidOut.{none_laid}
use Rattle.painter.proofs.sprite_state.SpriteState.clear.Goals as goal

pub invariant_of-self : goal.invariant_of-self
invariant_of-self c = rw c.new-self-inside.ensures (none_laid c.clear.new.self c.clear.ensures.rows)
