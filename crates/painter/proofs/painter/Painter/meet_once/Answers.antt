use Rattle.std.proofs.Common.{arith}
use Rattle.painter.proofs.Overlays.{quiet_kept}
use Rattle.painter.proofs.painter.Painter.meet_once.Goals as goal

pub returns-else-clx-eq0 : goal.returns-else-clx-eq0
returns-else-clx-eq0 c p stands = quiet_kept c.args.v c.args.h c.args.clx.now p (omega arith)
