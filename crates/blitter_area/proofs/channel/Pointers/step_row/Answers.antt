use Rattle.blitter_area.proofs.Moves.{all_moved_row}
use Rattle.blitter_area.proofs.channel.Pointers.step_row.Goals as goal

pub returns : goal.returns
returns c = λ s r k whole is. all_moved_row s r k c.args.self.now _ whole is c.step.ensures
