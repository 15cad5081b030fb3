use Rattle.std.proofs.Common.{rules}
use Rattle.band_board.proofs.Endings.{splits}
use Rattle.band_board.proofs.front.Front.split.Goals as goal

pub split_seat-seat-requires : goal.split_seat-seat-requires
split_seat-seat-requires g c = (search rules, search rules, splits g.W.Work.right_job g.W.Work.right_drawn _ _ _ c.args.self.now.is_front.role c.requires.few)
