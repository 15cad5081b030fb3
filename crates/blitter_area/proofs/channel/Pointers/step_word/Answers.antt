use Rattle.blitter_area.proofs.Moves.{all_moved_word}
use Rattle.blitter_area.proofs.channel.Pointers.step_word.Goals as goal

pub returns : goal.returns
returns c = λ s r k is. all_moved_word s r k c.args.self.now _ is c.step.ensures
