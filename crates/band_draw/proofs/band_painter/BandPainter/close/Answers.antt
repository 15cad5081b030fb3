use Rattle.band_draw.proofs.Painting.{closed_stands}
use Rattle.band_draw.proofs.band_painter.BandPainter.close.Goals as goal

pub returns : goal.returns
returns c from p is held =
    closed_stands from p c.close.result c.copied.result c.args.self.now.loads (c.close.ensures p is.painter held) c.copied.ensures
    (is.loads c.requires)
