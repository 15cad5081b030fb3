use Rattle.std.proofs.Common.{length}
use Rattle.band_gather.specs.Gathered.{GathersUpTo}
use Rattle.band_gather.proofs.gather.gather_all.Given as goal

-- so many bands of those at the start were gathered
abbrev pub invariant-loop-raster : goal.invariant-loop-raster
invariant-loop-raster g l =
    let seen = g.Q.Raster.seen in
    GathersUpTo (seen l.fn.raster) (seen l.raster) l.fn.out l.out l.fn.clx l.clx l.last

abbrev pub decreases-loop-raster : goal.decreases-loop-raster
decreases-loop-raster g l = length (g.Q.Raster.seen l.raster).outstanding
