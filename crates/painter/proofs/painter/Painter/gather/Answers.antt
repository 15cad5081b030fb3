use Rattle.std.proofs.Common.{arith}
use Rattle.painter.proofs.Covering.{column_reached}
use Rattle.painter.proofs.painter.Painter.gather.Goals as goal

pub returns-else-clx-reach : goal.returns-else-clx-reach
returns-else-clx-reach c p stands =
    column_reached c.args.column c.args.clx.now c.reach-reach.result c.args.self.now p stands c.reach-reach.ensures (grind arith)
