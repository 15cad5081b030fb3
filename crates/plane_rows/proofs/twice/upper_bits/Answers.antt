use Rattle.plane_rows.proofs.TwiceTable.{upper_of}
use Rattle.plane_rows.proofs.twice.upper_bits.Goals as goal

pub returns : goal.returns
returns c = upper_of c.args.word
