use Rattle.std.proofs.Common.{rules, [], ◌∷◌, ◌++◌, None, ap, ◌∙◌}
use Rattle.atomic_table.specs.Table.{turned}
use Rattle.band_board.specs.View.{after_opening}
use Rattle.band_board.proofs.FrontSteps.{opens}
use Rattle.band_board.proofs.Starts.{opened_more}
use Rattle.band_board.proofs.front.Front.open_slots.Goals as goal

pub load-requires : goal.load-requires
load-requires g c = let i = c.loop-place.invariant in (
  search rules,
  search rules,
  opens g.W.Work.right_job g.W.Work.right_drawn _ _ _ _ _ (ap (λ v. v.role) i.view) (ap (λ v. v.opened) i.view) (ap (λ v. v.published) i.view) (search rules),
)

pub loop-place-preserved : goal.loop-place-preserved
loop-place-preserved g c = let i = c.loop-place.invariant in let place = c.loop-place.place in let opened = c.load.ensures.2 in
    let turn = c.turn.ensures.2 in record {
      table = c.turn.ensures.0 ∙ c.load.ensures.0 ∙ i.table;
      view = ap (λ m. m.0) turn ∙ ap (λ m. m.0) opened ∙ ap after_opening i.view;
      slots = ap (λ m. m.1) turn ∙ ap (λ m. turned m.1) opened ∙ ap (λ l. l ++ (place, None) ∷ []) i.slots ∙ opened_more place c.loop-place-test.true;
    }
