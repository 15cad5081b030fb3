use Rattle.std.proofs.Common.{◌%◌, ◌*◌, ◌+◌, [], ◌∷◌, ◌++◌}
use Rattle.band_board.specs.Answers.{hand_view, looks_from}
use Rattle.crew.proofs.Drawing.{deliverable}
use Rattle.crew.proofs.Turns.{delivered, same_hand}
use Rattle.crew.proofs.hands.draw_one.Goals as goal
use Rattle.run_side.specs.Side.{side_of}

pub deliver-requires-clause-drawn : goal.deliver-requires-clause-drawn
deliver-requires-clause-drawn g c κs =
    let claim = c.in-Got.ensures.claim in
    deliverable side_of (hand_view c.args.hand.now) (hand_view c.claim.new.self) _ c.in-Got.number c.in-Got.job c.draw-drawn.result claim.3 claim.4
    c.draw-drawn.ensures.right

pub returns-in-Got-clause-looks : goal.returns-in-Got-clause-looks
returns-in-Got-clause-looks g c = let claim = c.in-Got.ensures.claim in delivered _ _ _ _ _ claim.4 c.deliver.ensures.list

pub returns-in-Got-clause-same : goal.returns-in-Got-clause-same
returns-in-Got-clause-same g c =
    let claim = c.in-Got.ensures.claim in
    let looks = looks_from 0 claim.0 ++ (c.in-Got.number % 16, 256 * c.in-Got.number + 1) ∷ [] in
    same_hand (hand_view c.args.hand.now) (hand_view c.claim.new.self) (hand_view c.deliver.new.self) looks c.in-Got.number claim.4 c.deliver.ensures.list
