use Rattle.band_board.specs.Answers.{front_view, IsFrontOf, IsFree}
use Rattle.crew.specs.Parts.{IsSteady}
use Rattle.crew.proofs.crew.gather.Given as goal

abbrev pub invariant-loop : goal.invariant-loop
invariant-loop g l = record {
  front : IsFrontOf l.board l.front;
  free : IsFree l.board l.hand;
  steady : IsSteady (front_view l.fn.front) (front_view l.front);
}
