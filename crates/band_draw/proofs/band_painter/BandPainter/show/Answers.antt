use Rattle.std.proofs.Common.{◌+◌, ◌*◌, ◌≤◌, ℕ, arith}
use Rattle.planes.proofs.Standing.{ShowsSame-later}
use Rattle.band_draw.proofs.band_painter.BandPainter.show.Goals as goal

behind : (h : ℕ) → 4 * h ≤ 4 * h + 4
behind h = omega arith

pub returns-clause-after : goal.returns-clause-after
returns-clause-after c p is = record {
  painter = c.show.ensures.held p is.painter;
  loads = λ keeps.
      ShowsSame-later (4 * c.args.beam.now.h) (4 * c.args.beam.now.h + 4) c.args.self.now.loads p.loads (behind c.args.beam.now.h) (is.loads keeps);
}
