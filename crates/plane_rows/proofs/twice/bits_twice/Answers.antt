use Rattle.plane_rows.proofs.TwiceTable.{lower_of}
use Rattle.plane_rows.proofs.twice.bits_twice.Goals as goal

pub returns : goal.returns
returns c = lower_of c.args.word
