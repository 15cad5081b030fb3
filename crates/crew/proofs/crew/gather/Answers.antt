use Rattle.run_side.specs.Side.{side_of}
use Rattle.band_board.specs.Answers.{front_view}
use Rattle.crew.proofs.Gathering.{gathers_first, steady_unless, still_some}
use Rattle.crew.proofs.crew.gather.Goals as goal

pub try_collect-requires-clause-some : goal.try_collect-requires-clause-some
try_collect-requires-clause-some g c κs =
    still_some side_of (front_view c.args.front.now) (front_view c.loop.front) c.loop.invariant.steady c.requires.some

pub returns-in-Got : goal.returns-in-Got
returns-in-Got g c =
    let band = c.in-Got.ensures.band in
    record {
      front = c.try_collect.ensures.board;
      hand = c.loop.invariant.free;
      first =
          gathers_first side_of (front_view c.args.front.now) (front_view c.loop.front) (front_view c.try_collect.new.self) c.in-Got.number c.in-Got.drawn
          band.2.0 c.loop.invariant.steady band.0 band.1 band.2.2;
    }

pub loop-preserved-then-draw_one : goal.loop-preserved-then-draw_one
loop-preserved-then-draw_one g c = record {
  front = c.try_collect.ensures.board;
  free = c.draw_one.ensures.free;
  steady =
      steady_unless side_of (front_view c.args.front.now) (front_view c.loop.front) (front_view c.try_collect.new.self) c.try_collect.result
      c.loop.invariant.steady c.in_default.not-Got c.try_collect.ensures.band;
}

pub loop-preserved : goal.loop-preserved
loop-preserved g c = record {
  front = c.try_collect.ensures.board;
  free = c.draw_one.ensures.free;
  steady =
      steady_unless side_of (front_view c.args.front.now) (front_view c.loop.front) (front_view c.try_collect.new.self) c.try_collect.result
      c.loop.invariant.steady c.in_default.not-Got c.try_collect.ensures.band;
}
