use Rattle.std.proofs.Common.{rules}
use Rattle.band_board.proofs.FrontSteps.{closes}
use Rattle.band_board.proofs.front.Front.close.Goals as goal

pub store-requires : goal.store-requires
store-requires g c = (search rules, search rules, closes g.W.Work.right_job g.W.Work.right_drawn _ _ _ _ c.args.self.now.is_front.role)
