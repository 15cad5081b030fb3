use Rattle.painter.proofs.Pairs.{ink_pairs}
use Rattle.painter.proofs.pixels.ink_clock.Goals as goal

pub returns-then-paired : goal.returns-then-paired
returns-then-paired c =
    ink_pairs c.args.inks.now c.args.line.now c.args.x c.ink_bytes-first.result c.ink_bytes-second.result
    (c.requires.pairs c.if-paired.true) c.ink_bytes-first.ensures c.ink_bytes-second.ensures
