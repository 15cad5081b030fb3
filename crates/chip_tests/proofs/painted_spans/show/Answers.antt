use Rattle.std.proofs.Common.{arith}
use Rattle.ocs_base.specs.declared.system.System.TheVariants.{Pal}
use Rattle.painter.proofs.Spans.{visible_few}
use Rattle.chip_tests.proofs.painted_spans.show.Goals as goal

pub show_span-requires-clause-room : goal.show_span-requires-clause-room
show_span-requires-clause-room c =
    let few = visible_few Pal 100 c.args.h c.args.count in
    omega (arith, c.requires.room)
