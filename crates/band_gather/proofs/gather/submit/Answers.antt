-- The raster fits the job once there is a place.
use Rattle.serial_bands.specs.Run.{run_over}
use Rattle.std.proofs.Common.{sym}
use Rattle.std.specs.Arc.{arc_value}
use Rattle.ocs_io.proofs.MapLaws.{on_err}
use Rattle.band_gather.specs.Gathered.{GathersPart}
use Rattle.band_gather.proofs.GatherLaws.{submits, few_outstanding}
use Rattle.band_gather.proofs.gather.submit.Goals as goal

pub submit-requires : goal.submit-requires
submit-requires g c =
    let seen = g.Q.Raster.seen in
    let gathered = c.in_ok-make_place.ensures.gathered (run_over g.S.Side.seen (arc_value c.args.job.run)) c.args.job.number c.args.job.from.0
    c.requires.fits.0 c.requires.fits.1 in
    record {
      few =
          c.in_ok-make_place.ensures.few
          (few_outstanding (run_over g.S.Side.seen (arc_value c.args.job.run)) c.args.job.number c.args.job.from.0 c.requires.fits.0 (seen c.args.raster.now)
          c.requires.fits.1);
      number = sym gathered.1.fits.next;
      right = c.requires.right;
      bound = gathered.1.fits.bound;
    }

pub returns-clause-submitted : goal.returns-clause-submitted
returns-clause-submitted g c =
    let seen = g.Q.Raster.seen in
    submits (run_over g.S.Side.seen (arc_value c.args.job.run)) c.args.job.number c.args.job.from.0 c.args.job.to.0 (seen c.args.raster.now)
    (seen c.make_place.new.raster)
    (seen c.submit.new.self) c.args.out.now c.make_place.new.out c.args.clx.now c.make_place.new.clx c.in_ok-make_place.ensures.gathered
    (c.in_ok-make_place.ensures.few
    (few_outstanding (run_over g.S.Side.seen (arc_value c.args.job.run)) c.args.job.number c.args.job.from.0 c.requires.fits.0 (seen c.args.raster.now)
    c.requires.fits.1))
    c.requires.right.parts.band c.submit.ensures

pub returns-in_err-make_place-clause-part : goal.returns-in_err-make_place-clause-part
returns-in_err-make_place-clause-part g c =
    let seen = g.Q.Raster.seen in
    on_err c.from_residual.result (GathersPart (seen c.args.raster.now) (seen c.make_place.new.raster) c.args.out.now c.make_place.new.out)
    c.in_err-make_place.ensures.part
