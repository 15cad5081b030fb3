use Rattle.std.proofs.Common.{◌+◌, ℕ, arith}
use Rattle.painter.specs.code.Overlay.{quiet_collisions}
use Rattle.painter.proofs.Overlays.{quiet_kept}
use Rattle.painter.proofs.Clocks.{gathered_already}
use Rattle.painter.proofs.painter.Painter.meet_clocks.Goals as goal

pub returns-else-clx-eq0 : goal.returns-else-clx-eq0
returns-else-clx-eq0 c p stands =
    gathered_already (λ (k : ℕ). quiet_collisions c.args.v (c.args.h + k) p) c.args.clx.now c.args.count
    (λ k lt. quiet_kept c.args.v (c.args.h + k) c.args.clx.now p (omega arith)) c.args.count (omega arith)
