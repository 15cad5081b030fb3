-- At reset it stands at the first place.
use Rattle.std.proofs.Common.{refl}
use Rattle.std.specs.Arc.{arc_value}
use Rattle.rewind_loop.specs.Present.{run_of, fore_of, raster_of}
use Rattle.rewind_loop.proofs.PresentLaws.{present_first}
use Rattle.rewind_loop.proofs.rewind.Rewind.at_reset.Goals as goal

pub returns-clause-run : goal.returns-clause-run
returns-clause-run c = refl

pub returns-clause-every : goal.returns-clause-every
returns-clause-every c = refl

pub returns-clause-first : goal.returns-clause-first
returns-clause-first c =
    present_first (run_of (arc_value c.args.run)) c.args.keep (fore_of c.args.fore) (raster_of c.in_ok-raster.raster) c.in_ok-raster.ring
    c.requires.new c.in_ok-raster.ensures.raster c.in_ok-raster.ensures.ring
