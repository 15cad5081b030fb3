use Rattle.std.proofs.Common.{◌∙◌, take, sym}
use Rattle.painter.proofs.Clocks.{inks_span, inside_inks}
use Rattle.painter.proofs.Modifying.{modified_span}
use Rattle.painter.proofs.painter.Painter.show_planes.Goals as goal

pub returns-then-holds_colour-clause-given : goal.returns-then-holds_colour-clause-given
returns-then-holds_colour-clause-given c p stands =
    modified_span c.args.from.system c.args.from.v c.args.from.h c.args.count c.args.self.now c.show_modified_clocks.new.self p
    (take c.args.at c.args.room.now) (take c.show_modified_clocks.result c.show_modified_clocks.new.room) c.args.clx.now c.meet_clocks.new.clx
    c.requires.inside c.requires.place (sym c.holds_colour.ensures ∙ c.if-holds_colour.true) c.requires.seen stands
    (c.show_modified_clocks.ensures.given p.held.0 stands.held) (c.meet_clocks.ensures p stands)

pub returns-else-holds_colour-clause-given : goal.returns-else-holds_colour-clause-given
returns-else-holds_colour-clause-given c p stands =
    inks_span c.args.from.system c.args.from.v c.args.from.h c.args.count c.args.self.now c.show_clocks.new.self p
    (take c.args.at c.args.room.now) (take c.show_clocks.result c.show_clocks.new.room) c.args.clx.now c.meet_clocks.new.clx
    (inside_inks c.args.from.v c.args.from.h c.args.count c.args.self.now c.requires.inside c.requires.place
    (sym c.holds_colour.ensures ∙ c.if-holds_colour.false))
    c.requires.seen stands c.requires.some c.show_clocks.ensures.held c.show_clocks.ensures.shown (c.meet_clocks.ensures p stands)
