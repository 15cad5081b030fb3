use Rattle.std.proofs.Common.{refl}
use Rattle.plane_rows.proofs.Pairs.{line_paired}
use Rattle.plane_rows.proofs.line.Line.is_paired_from.Goals as goal

pub returns : goal.returns
returns c = line_paired c.args.self.now c.args.x _ _ _ refl c.args.self.now.odd.pairs c.args.self.now.even.pairs
