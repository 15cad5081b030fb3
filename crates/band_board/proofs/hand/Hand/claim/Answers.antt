use Rattle.std.proofs.Common.{◌<◌, ◌+◌, ◌*◌, ◌%◌, length, take, sym, ap, ◌∙◌, length-set, arith}
use Rattle.std.proofs.lemmas.List.{length-take-le}
use Rattle.band_board.specs.View.{after_look, after_claim}
use Rattle.band_board.specs.Answers.{looks_at, looks_from, after_looks}
use Rattle.band_board.proofs.Seen.{refused_more, looks_more, after_more, look_more}
use Rattle.band_board.proofs.hand.Hand.claim.Goals as goal

pub returns-in-Ok-clause-claim : goal.returns-in-Ok-clause-claim
returns-in-Ok-clause-claim g c = let i = c.loop-place.invariant in let t = c.in-Ok.ensures.tried in let n = c.in-Ok.number in
    let before = take c.loop-place.place c.loop-place.seen in let size = i.size in
    let near = c.loop-place-test.true in let v = c.args.self.now.seat.me.0 in (
      before,
      length-take-le c.loop-place.place c.loop-place.seen (omega arith) ∙ sym t.0,
      i.refused,
      (t.1.0, ap (λ u. u.run) (sym i.view) ∙ t.1.1, t.1.2),
      t.2 ∙ ap (λ u. after_claim (after_look u c.loop-place.place (256 * n + 1)) n) i.view
          ∙ ap (λ u. after_claim u n) (look_more v (looks_from 0 before) c.loop-place.place (n % 16) (256 * n + 1) t.0),
    )

pub loop-place-preserved : goal.loop-place-preserved
loop-place-preserved g c = let i = c.loop-place.invariant in let t = c.in-Err.ensures.tried in let size = i.size in
    let near = c.loop-place-test.true in let place = c.loop-place.place in let seen = c.loop-place.seen in
    let inside : place < length seen = omega arith in record {
      table = c.try_place.ensures.board ∙ sym c.requires.board;
      size = length-set seen place c.in-Err.look ∙ i.size;
      free = i.free;
      refused = refused_more seen place c.in-Err.look inside i.refused t.0;
      view = t.1 ∙ ap (λ u. after_looks u (looks_at place c.in-Err.look)) i.view
          ∙ after_more c.args.self.now.seat.me.0 (looks_from 0 (take place seen)) (looks_at place c.in-Err.look)
          ∙ ap (after_looks c.args.self.now.seat.me.0) (looks_more seen place c.in-Err.look inside);
    }
