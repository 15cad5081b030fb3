use Rattle.std.proofs.Common.{◌≡◌, ◌==◌, true, false, arith}
use Rattle.std.proofs.lemmas.Bool.Decides.{nat_tests}
use Rattle.band_draw.proofs.Painting.{opened_start, opened_on}
use Rattle.band_draw.proofs.band_painter.BandPainter.open.Goals as goal

pub returns-then-beam-eq0-clause-opened : goal.returns-then-beam-eq0-clause-opened
returns-then-beam-eq0-clause-opened c =
    let start : (c.args.beam.now.h == 0) ≡ true = grind (arith, nat_tests) in
    opened_start c.args.beam.now c.args.d.now _ start c.open_line.ensures c.new.ensures

pub returns-clause-opened : goal.returns-clause-opened
returns-clause-opened c =
    let on : (c.args.beam.now.h == 0) ≡ false = grind (arith, nat_tests) in
    opened_on c.args.beam.now c.args.d.now _ on c.open.ensures c.copied.ensures
