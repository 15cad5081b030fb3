use Rattle.std.proofs.Common.{◌≤◌, length, ap, ◌∙◌, arith}
use Rattle.band_board.specs.Answers.{front_view, hand_view}
use Rattle.run_side.specs.declared.side.RunSide.{RunSide}
use Rattle.serial_bands.specs.Run.{RunOf}
use Rattle.band_board.specs.declared.view.View.{View}
use Rattle.crew.proofs.Marks.{same_table}
use Rattle.crew.proofs.Ending.{all_drawn}
use Rattle.crew.proofs.start.with_crew.Goals as goal

pub returns-clause-ran : goal.returns-clause-ran
returns-clause-ran g c =
    let crew = c.in_ok-crew.crew in
    let made = c.in_ok-crew.ensures in
    let ran = c.run_crew-answer.ensures in
    let closed = c.run_crew-answer.result.1 in
    let totals = c.totals.ensures in
    let left = ran.left in
    let v = front_view left.front in
    let sum = left.is_crew.behind in
    let behind : v.collected ≤ v.published = omega arith in
    let hands = (same_table _ _ _ _ ran.same).1 ∙ made.hands in
    let workers = ran.joined ∙ made.all in
    let drawn =
    all_drawn _ v (front_view closed.front) (hand_view closed.hand) (hand_view left.hand) _ _ c.args.workers ran.front ran.hand workers hands
    left.is_crew.run_is behind totals in
    record {
      crew = crew;
      starts = made.starts;
      left = left;
      called = ran.called;
      same = ran.same;
      joined = (front_view closed.front).joined;
      all_joined = workers;
      by_hands = totals.workers;
      by_front = totals.crew ∙ ap (λ (w : View (RunOf RunSide)). length w.done) ran.hand;
      once = drawn.0;
      sum = drawn.1;
    }

pub run_crew-answer-requires-clause-few : goal.run_crew-answer-requires-clause-few
run_crew-answer-requires-clause-few g c κs within = let made = c.in_ok-crew.ensures in omega (arith, made.all, c.requires.workers)

pub run_crew-answer-requires-clause-workers : goal.run_crew-answer-requires-clause-workers
run_crew-answer-requires-clause-workers g c κs within = let made = c.in_ok-crew.ensures in made.boards

pub run_crew-answer-requires-clause-body : goal.run_crew-answer-requires-clause-body
run_crew-answer-requires-clause-body g c κs within = let made = c.in_ok-crew.ensures in c.requires.body c.in_ok-crew.crew made.starts

pub returns-clause-unchanged : goal.returns-clause-unchanged
returns-clause-unchanged g c = tt
