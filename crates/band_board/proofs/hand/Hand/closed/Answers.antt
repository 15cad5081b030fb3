use Rattle.std.proofs.Common.{rules}
use Rattle.band_board.proofs.HandSteps.{looks}
use Rattle.band_board.proofs.hand.Hand.closed.Goals as goal

pub load-requires : goal.load-requires
load-requires g c = (search rules, search rules, looks g.W.Work.right_job g.W.Work.right_drawn _ _ _ _ 16 c.args.self.now.is_hand.role)
