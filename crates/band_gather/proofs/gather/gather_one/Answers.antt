-- What was collected is right for the first band.
use Rattle.std.proofs.Common.{subst, List, [], ℕ, refl}
use Rattle.ocs_io.proofs.MapLaws.{on_err}
use Rattle.band_gather.specs.Gathered.{GathersPart}
use Rattle.out_files.specs.Gives.{Gives}
use Rattle.out_files.proofs.GivesLaws.{gives_pixels}
use Rattle.band_gather.proofs.GatherLaws.{gathers_one, gathers_no_pixels}
use Rattle.band_gather.proofs.gather.gather_one.Goals as goal

pub returns-in_err-pixels-clause-part : goal.returns-in_err-pixels-clause-part
returns-in_err-pixels-clause-part g c =
    let seen = g.Q.Raster.seen in
    on_err c.from_residual.result
    (GathersPart (seen c.args.raster.now) (seen c.collect-job.new.self) c.args.out.now c.pixels-2.new.self)
    (gathers_no_pixels (seen c.args.raster.now) (seen c.collect-job.new.self) c.args.out.now c.pixels-2.new.self
    c.requires c.collect-job.ensures.taken c.in_err-pixels.ensures.refused)

pub returns-clause-gathered : goal.returns-clause-gathered
returns-clause-gathered g c =
    let seen = g.Q.Raster.seen in
    let piece : Gives c.args.out.now c.pixels-2.new.self c.pixels.result.now [] =
    gives_pixels c.args.out.now c.pixels-2.new.self c.pixels.result.now c.in_ok-pixels.ensures.ok c.in_ok-pixels.ensures.together
    in
    gathers_one (seen c.args.raster.now) (seen c.collect-job.new.self) c.args.out.now c.pixels-2.new.self c.args.clx.now _ g.S.Side.seen c.collect-job.result
    c.requires c.collect-job.ensures.taken c.collect-job.ensures.right
    (subst (λ (l : List ℕ). Gives c.args.out.now c.pixels-2.new.self l []) c.pixels.ensures piece) refl
