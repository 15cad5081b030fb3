-- Where the first band was gathered there is a place.
use Rattle.std.proofs.Common.{◌≡◌, ◌+◌, length, arith}
use Rattle.ocs_io.proofs.MapLaws.{on_err}
use Rattle.band_gather.specs.Gathered.{GathersPart}
use Rattle.band_gather.proofs.GatherLaws.{some_nothing, some_one, fewer_without_first}
use Rattle.band_gather.proofs.gather.make_place.Goals as goal

pub gather_one-requires : goal.gather_one-requires
gather_one-requires g c = omega (arith, c.if-outstanding-places.false, c.outstanding.ensures, c.places-places.ensures.least)

pub returns-then-outstanding-places-clause-few : goal.returns-then-outstanding-places-clause-few
returns-then-outstanding-places-clause-few g c = λ most. omega (arith, c.if-outstanding-places.true, c.outstanding.ensures, c.places-places.ensures.most)

pub returns-then-outstanding-places-clause-gathered : goal.returns-then-outstanding-places-clause-gathered
returns-then-outstanding-places-clause-gathered g c = some_nothing (g.Q.Raster.seen c.args.raster.now) c.args.out.now c.args.clx.now

pub returns-clause-few : goal.returns-clause-few
returns-clause-few g c = λ most.
    let seen = g.Q.Raster.seen in
    let fewer : length (seen c.gather_one.new.raster).outstanding + 1 ≡ length (seen c.args.raster.now).outstanding =
    fewer_without_first (seen c.args.raster.now) (seen c.gather_one.new.raster) c.in_ok-gather_one.ensures.taken
    (omega (arith, c.if-outstanding-places.false, c.outstanding.ensures, c.places-places.ensures.least))
    in
    omega (arith, fewer, most)

pub returns-clause-gathered : goal.returns-clause-gathered
returns-clause-gathered g c =
    let seen = g.Q.Raster.seen in
    some_one (seen c.args.raster.now) (seen c.gather_one.new.raster) c.args.out.now c.gather_one.new.out c.args.clx.now c.gather_one.new.clx
    c.in_ok-gather_one.field-0 c.in_ok-gather_one.ensures.gathered

pub returns-in_err-gather_one-clause-part : goal.returns-in_err-gather_one-clause-part
returns-in_err-gather_one-clause-part g c =
    let seen = g.Q.Raster.seen in
    on_err c.from_residual.result (GathersPart (seen c.args.raster.now) (seen c.gather_one.new.raster) c.args.out.now c.gather_one.new.out)
    c.in_err-gather_one.ensures.part
