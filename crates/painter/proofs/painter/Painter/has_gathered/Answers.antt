use Rattle.std.proofs.Common.{◌∙◌, sym, arith}
use Rattle.painter.proofs.Beginning.{not_true}
use Rattle.painter.proofs.Overlays.{same_bits, quiet_kept, none_gather}
use Rattle.painter.proofs.painter.Painter.has_gathered.Goals as goal

pub returns-then-clx-eq1 : goal.returns-then-clx-eq1
returns-then-clx-eq1 c is v h p room stands blank = quiet_kept v h c.args.clx p (omega arith)

pub returns-else-clx-eq1 : goal.returns-else-clx-eq1
returns-else-clx-eq1 c is v h p room stands blank =
    same_bits c.args.clx _ (none_gather v h c.args.self.now p stands room blank
    (sym c.do_playfields_meet.ensures ∙ not_true c.do_playfields_meet.result is))
