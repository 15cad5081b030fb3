use Rattle.std.proofs.Common.{◌∙◌}
use Rattle.painter.proofs.Showing.{border_clock, backdrop_stands}
use Rattle.painter.proofs.painter.Painter.show_outside.Goals as goal

pub returns-clause-pixels : goal.returns-clause-pixels
returns-clause-pixels c p stands =
    c.show_backdrop.ensures.pixels
    ∙ border_clock c.args.v c.args.h c.args.self.now p stands c.requires.first c.requires.second

pub returns-clause-held : goal.returns-clause-held
returns-clause-held c p stands =
    backdrop_stands c.args.v c.args.h c.args.self.now c.show_backdrop.new.self p stands
    (border_clock c.args.v c.args.h c.args.self.now p stands c.requires.first c.requires.second) c.show_backdrop.ensures.held
