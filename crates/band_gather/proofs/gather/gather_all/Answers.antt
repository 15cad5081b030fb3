-- Band by band.
use Rattle.std.proofs.Common.{◌≡◌, ◌+◌, length, arith}
use Rattle.std.proofs.lemmas.List.{nil_from_length}
use Rattle.ocs_io.proofs.MapLaws.{on_err}
use Rattle.band_gather.specs.Gathered.{GathersPart}
use Rattle.band_gather.proofs.GatherLaws.{up_to_nothing, up_to_more, up_to_part, up_to_all, fewer_without_first}
use Rattle.band_gather.proofs.gather.gather_all.Goals as goal

pub loop-raster-init : goal.loop-raster-init
loop-raster-init g c = up_to_nothing (g.Q.Raster.seen c.args.raster.now) c.args.out.now c.args.clx.now

pub loop-raster-preserved : goal.loop-raster-preserved
loop-raster-preserved g c =
    let seen = g.Q.Raster.seen in
    up_to_more (seen c.args.raster.now) (seen c.loop-raster.raster) (seen c.gather_one.new.raster) c.args.out.now c.loop-raster.out c.gather_one.new.out
    c.args.clx.now c.loop-raster.clx c.gather_one.new.clx c.loop-raster.last c.in_ok-gather_one.field-0 c.loop-raster.invariant
    c.in_ok-gather_one.ensures.gathered

pub loop-raster-smaller : goal.loop-raster-smaller
loop-raster-smaller g c =
    let seen = g.Q.Raster.seen in
    let fewer : length (seen c.gather_one.new.raster).outstanding + 1 ≡ length (seen c.loop-raster.raster).outstanding =
    fewer_without_first (seen c.loop-raster.raster) (seen c.gather_one.new.raster) c.in_ok-gather_one.ensures.taken
    (omega (arith, c.loop-raster-test.true, c.outstanding.ensures))
    in
    omega (arith, fewer)

pub gather_one-requires : goal.gather_one-requires
gather_one-requires g c = omega (arith, c.loop-raster-test.true, c.outstanding.ensures)

pub returns-in_err-gather_one-clause-part : goal.returns-in_err-gather_one-clause-part
returns-in_err-gather_one-clause-part g c =
    let seen = g.Q.Raster.seen in
    on_err c.from_residual.result (GathersPart (seen c.args.raster.now) (seen c.gather_one.new.raster) c.args.out.now c.gather_one.new.out)
    (up_to_part (seen c.args.raster.now) (seen c.loop-raster.raster) (seen c.gather_one.new.raster) c.args.out.now c.loop-raster.out c.gather_one.new.out
    c.args.clx.now c.loop-raster.clx c.loop-raster.last c.loop-raster.invariant c.in_err-gather_one.ensures.part)

pub returns-clause-gathered : goal.returns-clause-gathered
returns-clause-gathered g c =
    let seen = g.Q.Raster.seen in
    up_to_all (seen c.args.raster.now) (seen c.loop-raster.raster) c.args.out.now c.loop-raster.out c.args.clx.now c.loop-raster.clx c.loop-raster.last
    c.loop-raster.invariant (nil_from_length _ (omega (arith, c.loop-raster-test.false, c.outstanding.ensures)))

pub returns-clause-none : goal.returns-clause-none
returns-clause-none g c = nil_from_length _ (omega (arith, c.loop-raster-test.false, c.outstanding.ensures))
