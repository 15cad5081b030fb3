use Rattle.band_board.specs.Answers.{hand_view}
use Rattle.crew.proofs.Turns.{looked_on, same_on, ends_idle}
use Rattle.crew.proofs.hands.hand_loop.Goals as goal

pub loop-preserved-then-draw_one : goal.loop-preserved-then-draw_one
loop-preserved-then-draw_one g c = record {
  free = c.draw_one.ensures.free;
  same = same_on (hand_view c.args.hand) (hand_view c.loop.hand) (hand_view c.closed-closed.new.self) (hand_view c.draw_one.new.hand) 16 _
      c.loop.invariant.same c.closed-closed.ensures.look c.draw_one.ensures.same;
  looked = looked_on (hand_view c.args.hand) (hand_view c.loop.hand) (hand_view c.closed-closed.new.self) (hand_view c.draw_one.new.hand) 16 _
      c.draw_one.result c.loop.invariant.looked c.closed-closed.ensures.look c.draw_one.ensures.looks;
}

pub loop-preserved : goal.loop-preserved
loop-preserved g c = record {
  free = c.draw_one.ensures.free;
  same = same_on (hand_view c.args.hand) (hand_view c.loop.hand) (hand_view c.closed-closed.new.self) (hand_view c.draw_one.new.hand) 16 _
      c.loop.invariant.same c.closed-closed.ensures.look c.draw_one.ensures.same;
  looked = looked_on (hand_view c.args.hand) (hand_view c.loop.hand) (hand_view c.closed-closed.new.self) (hand_view c.draw_one.new.hand) 16 _
      c.draw_one.result c.loop.invariant.looked c.closed-closed.ensures.look c.draw_one.ensures.looks;
}

pub returns-then-closed : goal.returns-then-closed
returns-then-closed g c = record {
  free = c.draw_one.ensures.free;
  same = same_on (hand_view c.args.hand) (hand_view c.loop.hand) (hand_view c.closed-closed.new.self) (hand_view c.draw_one.new.hand) 16 _
      c.loop.invariant.same c.closed-closed.ensures.look c.draw_one.ensures.same;
  end = ends_idle (hand_view c.args.hand) (hand_view c.loop.hand) (hand_view c.closed-closed.new.self) (hand_view c.draw_one.new.hand)
      c.closed-closed.result c.draw_one.result c.loop.invariant.looked c.closed-closed.ensures.look c.if-closed.true c.if-draw_one.false
      c.draw_one.ensures.looks;
}
