use Rattle.band_board.specs.Answers.{hand_view, IsFree}
use Rattle.crew.specs.Hands.{HasLooked, IsSameHand}
use Rattle.crew.proofs.hands.hand_loop.Given as goal

abbrev pub invariant-loop : goal.invariant-loop
invariant-loop g l = record {
  free : IsFree l.board l.hand;
  same : IsSameHand (hand_view l.fn.hand) (hand_view l.hand);
  looked : HasLooked (hand_view l.fn.hand) (hand_view l.hand);
}
