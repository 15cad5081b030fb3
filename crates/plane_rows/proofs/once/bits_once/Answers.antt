use Rattle.plane_rows.proofs.OnceTable.{once_of}
use Rattle.plane_rows.proofs.once.bits_once.Goals as goal

pub returns : goal.returns
returns c = once_of c.args.word
