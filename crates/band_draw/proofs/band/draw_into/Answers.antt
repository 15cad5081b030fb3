use Rattle.std.proofs.Common.{ℕ, List, length, sym, ap, ◌∙◌, subst}
use Rattle.serial_bands.specs.BandShown.{IsRightDrawn}
use Rattle.serial_bands.specs.Run.{run_over}
use Rattle.band_draw.proofs.Beginning.{given_back}
use Rattle.band_draw.proofs.band.draw_into.Goals as goal

pub returns-clause-ended : goal.returns-clause-ended
returns-clause-ended g c n band =
    let run = run_over g.S.Side.seen c.args.run.now in
    subst (λ l. IsRightDrawn run n c.args.start.from c.args.start.to l c.draw_all-closing.new.p.clx c.draw_all-closing.result)
    (sym (given_back c.args.room.now c.draw_all-closing.new.room
    (c.draw_all-closing.ensures.size ∙ ap (λ (l : List ℕ). length l) c.pixels_mut.ensures.bytes))) (c.draw_all-closing.ensures.ended n band)
