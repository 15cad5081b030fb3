use Rattle.band_board.specs.Answers.{front_view, hand_view}
use Rattle.crew.proofs.Counting.{counted_more}
use Rattle.crew.proofs.closed.Closed.join.Goals as goal

pub invariant_of-self-clause-counted : goal.invariant_of-self-clause-counted
invariant_of-self-clause-counted c =
    counted_more c.args.self.now.by_hands c.count.result (front_view c.args.self.now.front) (front_view c.join.new.self) (hand_view c.args.hand)
    c.args.self.now.counted c.count.ensures.count c.count.ensures.most c.join.ensures.view
