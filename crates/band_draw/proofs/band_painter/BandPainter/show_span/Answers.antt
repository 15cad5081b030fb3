use Rattle.std.proofs.Common.{List, sym, subst}
use Rattle.planes.specs.PlaneBit.{ShowsSame}
use Rattle.planes.specs.declared.load.Load.{Load}
use Rattle.band_draw.proofs.Painting.{loads_shown}
use Rattle.band_draw.proofs.band_painter.BandPainter.show_span.Goals as goal

pub returns-clause-given : goal.returns-clause-given
returns-clause-given c from p is =
    let given = c.show_span.ensures.given p is.painter in
    record {
      painted = record {
        painter = given.painted;
        loads = λ keeps.
            subst (λ (l : List Load). ShowsSame from c.args.self.now.loads l)
            (sym (loads_shown c.args.from.system c.args.from.v c.args.from.h c.args.count p)) (is.loads keeps);
      };
      bytes = given.bytes;
      bits = given.bits;
    }
