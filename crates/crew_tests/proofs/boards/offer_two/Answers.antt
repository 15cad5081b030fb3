-- The run of the front stays as it is while it offers.
use Rattle.std.proofs.Common.{◌≡◌, ℕ, ap, ◌∙◌, refl, lit<}
use Rattle.band_board.specs.declared.view.View.{View}
use Rattle.crew_tests.proofs.boards.offer_two.Goals as goal

pub offer-requires-2-clause-right : goal.offer-requires-2-clause-right
offer-requires-2-clause-right c κs =
    (5, ap (λ (v : View ℕ). v.run) c.offer.ensures.view ∙ c.requires.run, (refl, lit< {m = 1} {n = 4294967296} tt, lit< {m = 5} {n = 4294967296} tt))
