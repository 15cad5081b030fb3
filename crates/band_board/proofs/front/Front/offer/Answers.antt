use Rattle.std.proofs.Common.{rules, ◌≡◌, sym, refl, ap, ◌∙◌, arith}
use Rattle.band_board.proofs.FrontSteps.{offers}
use Rattle.band_board.proofs.front.Front.offer.Goals as goal

pub store-requires : goal.store-requires
store-requires g c = let f = c.args.self.now.is_front in let now = c.exchange.ensures.3 in let right = c.requires.right in
    let same : c.exchange.new.seat.me.0.collected ≡ c.args.self.now.seat.me.0.collected = ap (λ m. m.0.collected) now in let room = c.requires.room in (
      search rules,
      search rules,
      offers g.W.Work.right_job g.W.Work.right_drawn _ _ _ _ _ c.args.number _ c.args.job _ (ap (λ m. m.0.role) now
          ∙ f.role) (ap (λ m. m.0.opened) now ∙ f.opened) (ap (λ m. m.0.published) now ∙ sym c.requires.next) (omega arith)
          refl refl (g.W.Work.few right.0 c.args.number c.args.job right.2) (right.0, ap (λ m. m.0.run) now ∙ right.1, right.2) (ap (λ m. m.1) now),
    )
