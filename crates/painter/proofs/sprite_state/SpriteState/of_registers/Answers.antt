use Rattle.painter.proofs.LaidOut.{none_laid}
use Rattle.painter.proofs.sprite_state.SpriteState.of_registers.Goals as goal

pub invariant_of-result : goal.invariant_of-result
invariant_of-result c = rw c.new.ensures (none_laid c.new-2.result c.new-2.ensures.rows)
