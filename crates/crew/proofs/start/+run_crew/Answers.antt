use Rattle.std.proofs.Common.{length, sym, ap, ◌∙◌, refl, arith}
use Rattle.band_board.specs.declared.view.View.{View}
use Rattle.run_side.specs.declared.side.RunSide.{RunSide}
use Rattle.serial_bands.specs.Run.{RunOf}
use Rattle.band_board.specs.Answers.{front_view, hand_view}
use Rattle.crew.proofs.Marks.{same_table}
use Rattle.crew.proofs.Ending.{closes, closes_on, joined_one_more, one_table, without_last, one_fewer, called_at}
use Rattle.crew.proofs.start.+run_crew.Goals as goal

pub returns-in_default : goal.returns-in_default
returns-in_default g t c =
    let left = c.body-answer.new.arg2 in
    let called = called_at _ _ _ _ _ _ c.body-answer.ensures in
    let same = c.requires.body.keeps _ _ left called in
    record {
      left = left;
      called = called;
      same = same;
      table = one_table _ _ c.close.ensures.board ∙ (same_table _ _ _ _ same).0;
      front = closes (front_view left.front) _ c.close.ensures.front;
      hand = c.close.ensures.hand;
      joined =
          ap (λ (v : View (RunOf RunSide)). length v.joined) c.close.ensures.front ∙ ap length left.is_crew.joined
          ∙ sym c.in_default.ensures.cases.0 ∙ c.args.workers.ok.0;
    }

pub run_crew-answer-requires-clause-workers : goal.run_crew-answer-requires-clause-workers
run_crew-answer-requires-clause-workers g t c κs within = (without_last _ _ _ c.in-Some.worker c.requires.workers c.in-Some.ensures.items).0

pub join-requires-clause-free : goal.join-requires-clause-free
join-requires-clause-free g t c =
    let free = c.end-hand.ensures (record { board = c.of.result }) c.start-task.ensures in
    let worker = (without_last _ _ _ c.in-Some.worker c.requires.workers c.in-Some.ensures.items).1 in
    (free.0 ∙ one_table _ _ (c.of.ensures ∙ c.deref.ensures) ∙ worker ∙ sym c.run_crew-answer.ensures.table, free.1)

pub returns : goal.returns
returns g t c =
    let ran = c.run_crew-answer.ensures in
    let closed = front_view c.run_crew-answer.result.1.front in
    let joins = front_view c.join.new.self.front in
    let hand = hand_view c.end-hand.result in
    let more = joined_one_more closed joins hand c.join.ensures.front in
    let fewer = one_fewer _ _ c.in-Some.worker c.in-Some.ensures.items in
    let joined = ran.joined in
    record {
      left = ran.left;
      called = ran.called;
      same = ran.same;
      table = one_table _ _ c.join.ensures.board ∙ ran.table;
      front = closes_on (front_view ran.left.front) closed joins hand ran.front c.join.ensures.front;
      hand = c.join.ensures.hand ∙ ran.hand;
      joined = omega arith;
    }

pub body-answer-requires : goal.body-answer-requires
body-answer-requires g t c = c.requires.body.takes _ refl

pub run_crew-answer-requires-clause-statics : goal.run_crew-answer-requires-clause-statics
run_crew-answer-requires-clause-statics g t c κs within = c.requires.statics

pub run_crew-answer-requires-clause-few : goal.run_crew-answer-requires-clause-few
run_crew-answer-requires-clause-few g t c κs within =
    let fewer = one_fewer _ _ c.in-Some.worker c.in-Some.ensures.items in
    omega (arith, fewer, c.requires.few)

pub run_crew-answer-requires-clause-body : goal.run_crew-answer-requires-clause-body
run_crew-answer-requires-clause-body g t c κs within = c.requires.body

pub join-requires-clause-few : goal.join-requires-clause-few
join-requires-clause-few g t c =
    let fewer = one_fewer _ _ c.in-Some.worker c.in-Some.ensures.items in
    let ran = c.run_crew-answer.ensures in
    omega (arith, fewer, ran.joined, c.requires.few)
