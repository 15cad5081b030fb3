use Rattle.std.proofs.Common.{◌+◌, ◌*◌, List, subst, sym, arith}
use Rattle.planes.specs.PlaneBit.{ShowsSame}
use Rattle.planes.specs.declared.load.Load.{Load}
use Rattle.band_draw.proofs.Painting.{loads_kept}
use Rattle.band_draw.proofs.band_painter.BandPainter.latch.Goals as goal

pub returns-clause-paints : goal.returns-clause-paints
returns-clause-paints c h from p later is = record {
  painter = c.latch.ensures h p is.painter;
  loads = λ keeps.
      subst (λ (l : List Load). ShowsSame from c.args.self.now.loads l)
      (sym (loads_kept h (0x10e + 2 * c.args.plane) c.args.word p (λ e. omega (arith, e, c.requires.least)))) (is.loads keeps);
}
