use Rattle.std.proofs.Common.{◌∙◌}
use Rattle.band_board.specs.Answers.{front_view}
use Rattle.crew.proofs.Hiring.{hired_after_split, starts_on, same_board}
use Rattle.crew.proofs.start.hire_crew.Goals as goal

pub new-requires-clause-start : goal.new-requires-clause-start
new-requires-clause-start g c =
    starts_on (front_view c.args.front) _ _ c.requires.start
    (hired_after_split _ (front_view c.split-hand.new.self) _ _ c.split-hand.ensures.view c.in_ok-own.ensures.hands)

pub returns : goal.returns
returns g c = record {
  hands =
      c.new.ensures.front
      ∙ hired_after_split (front_view c.args.front) (front_view c.split-hand.new.self) _ _ c.split-hand.ensures.view c.in_ok-own.ensures.hands;
  boards = same_board _ _ _ c.new.ensures.board c.in_ok-own.ensures.boards;
  all = c.in_ok-own.ensures.all;
}
