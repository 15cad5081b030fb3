use Rattle.painter.proofs.HeldWords.{bytes_word}
use Rattle.painter.proofs.ham.word_of.Goals as goal

pub returns : goal.returns
returns c colour is = bytes_word c.args.held.red c.args.held.green c.args.held.blue colour is.bytes
