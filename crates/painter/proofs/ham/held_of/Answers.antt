use Rattle.painter.proofs.HeldWords.{word_held}
use Rattle.painter.proofs.ham.held_of.Goals as goal

pub returns : goal.returns
returns c colour is = record { bytes = word_held c.args.word colour is }
