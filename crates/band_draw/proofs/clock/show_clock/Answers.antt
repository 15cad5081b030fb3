use Rattle.std.proofs.Common.{◌*◌, ◌∙◌, sym, take}
use Rattle.band_draw.proofs.Giving.{given_visible, given_hidden}
use Rattle.band_draw.proofs.clock.show_clock.Goals as goal

pub returns-then-show-clause-given : goal.returns-then-show-clause-given
returns-then-show-clause-given c p is =
    given_visible c.args.system c.args.beam.now.v c.args.beam.now.h p c.show.new.self _ _ _ c.args.clx.now c.show.new.clx
    (c.show.ensures.after p is) (c.show.ensures.clx (4 * c.args.beam.now.h) p is)
    (c.show.ensures.pixels (4 * c.args.beam.now.h) p is c.if-show.true) c.put.ensures.bytes

pub returns-clause-given : goal.returns-clause-given
returns-clause-given c p is =
    given_hidden c.args.system c.args.beam.now.v c.args.beam.now.h p c.show.new.self (take c.args.filled c.args.room.now) c.args.clx.now c.show.new.clx
    (c.show.ensures.after p is) (c.show.ensures.clx (4 * c.args.beam.now.h) p is) (sym c.show.ensures.visible ∙ c.if-show.false)
