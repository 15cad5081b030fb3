use Rattle.std.proofs.Common.{rules, ap, ◌∙◌}
use Rattle.band_board.proofs.Endings.{joins, learns}
use Rattle.band_board.proofs.front.Front.join.Goals as goal

pub join_seat-requires : goal.join_seat-requires
join_seat-requires g c = (
  search rules,
  search rules,
  search rules,
  search rules,
  joins g.W.Work.right_job g.W.Work.right_drawn _ _ _ _ _ c.args.self.now.is_front.role c.into_seat.ensures.role (ap
      (λ s. s.me.0.claim) c.into_seat.ensures.seat ∙ c.requires.free),
)

pub load-requires : goal.load-requires
load-requires g c = (
  search rules,
  search rules,
  learns g.W.Work.right_job g.W.Work.right_drawn _ _ _ _ (ap (λ m. m.0.role) c.join_seat.ensures.2
      ∙ c.args.self.now.is_front.role),
)
