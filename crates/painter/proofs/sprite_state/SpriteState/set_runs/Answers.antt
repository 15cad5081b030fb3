use Rattle.painter.proofs.LaidOut.{unknown_laid}
use Rattle.painter.proofs.sprite_state.SpriteState.set_runs.Goals as goal

pub invariant_of-self : goal.invariant_of-self
invariant_of-self c = unknown_laid c.self.inside.rows c.args.runs c.requires
