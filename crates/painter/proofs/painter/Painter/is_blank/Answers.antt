use Rattle.std.proofs.Common.{arith}
use Rattle.painter.proofs.Showing.{unset_clock}
use Rattle.painter.proofs.painter.Painter.is_blank.Goals as goal

pub returns-then-is_blank_from-clause-pixels : goal.returns-then-is_blank_from-clause-pixels
returns-then-is_blank_from-clause-pixels c is p stands =
    unset_clock c.args.v c.args.h c.args.self.now p stands (omega arith) (c.is_blank_from.ensures.blank c.if-is_blank_from.true)

pub returns-then-is_blank_from-clause-clx : goal.returns-then-is_blank_from-clause-clx
returns-then-is_blank_from-clause-clx c is p stands =
    c.is_gathered.ensures.clx is p stands (c.is_blank_from.ensures.blank c.if-is_blank_from.true)
