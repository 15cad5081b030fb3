use Rattle.band_board.specs.Answers.{front_view, hand_view}
use Rattle.crew.proofs.Counting.{are_totals}
use Rattle.crew.proofs.closed.Closed.totals.Goals as goal

pub returns : goal.returns
returns c =
    are_totals c.args.self.by_hands c.count-by_front.result (front_view c.args.self.front) (front_view c.join.new.self) (hand_view c.args.self.hand)
    c.args.self.counted c.count-by_front.ensures.count c.join.ensures.view c.join.ensures.all
