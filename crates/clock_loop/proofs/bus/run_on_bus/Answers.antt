-- A look changes nothing that counts.
use Rattle.std.proofs.Common.{◌≡◌, false, OnOk, OnErr, subst, sym}
use Rattle.chip_set.specs.Bus.{LeaveBus, IsClaim}
use Rattle.clock_loop.specs.code.BusRun.{HasRunOnBus, HasRunInPart, IsOpenForBus}
use Rattle.foreground.specs.Fore.{ForeOf, over, CanGo}
use Rattle.clock_loop.specs.code.Line.{AreInLine}
use Rattle.clock_loop.proofs.bus.run_on_bus.Goals as goal

pub clocks_by_claim-requires : goal.clocks_by_claim-requires
clocks_by_claim-requires g c =
    let of = over g.S.Side.seen in
    let same = sym c.bus_clocks-clocks.ensures.same in
    let clocks = c.bus_clocks-clocks.result.0 in
    let rules = c.bus_clocks-clocks.result.1 in
    record {
      fits = subst (λ f. CanGo (of f) (g.Q.Raster.seen c.args.raster.now)) same c.requires.fits;
      fresh = subst (λ (f : ForeOf _). f.spent ≡ false) same c.requires.fresh;
      bus = record {
        line = λ some. subst (λ f. AreInLine c.args.limit clocks (of f)) same (c.bus_clocks-clocks.ensures.line some);
        leave = λ some. subst (λ (f : ForeOf _). LeaveBus rules f.machine.beam clocks f.machine.chips) same (c.bus_clocks-clocks.ensures.leave some);
        ready = λ some. subst (λ (f : ForeOf _). IsOpenForBus (of f)) same (c.bus_clocks-clocks.ensures.ready some);
        asks = subst (λ (f : ForeOf _). IsClaim c.blitter_claim-claim.result f.machine.chips) c.fore.view_is c.blitter_claim-claim.ensures;
      };
    }

pub returns-clause-runs : goal.returns-clause-runs
returns-clause-runs g c =
    let of = over g.S.Side.seen in
    subst (λ (f : ForeOf _). OnOk c.clocks_by_claim.result (HasRunOnBus c.args.limit (of f) (of c.clocks_by_claim.new.fore)
    (g.Q.Raster.seen c.args.raster.now) (g.Q.Raster.seen c.clocks_by_claim.new.raster) c.args.out.now c.clocks_by_claim.new.out))
    c.bus_clocks-clocks.ensures.same c.clocks_by_claim.ensures.runs

pub returns-clause-part : goal.returns-clause-part
returns-clause-part g c =
    let of = over g.S.Side.seen in
    subst (λ (f : ForeOf _). OnErr c.clocks_by_claim.result (HasRunInPart c.args.limit (of f) (of c.clocks_by_claim.new.fore)
    (g.Q.Raster.seen c.args.raster.now) (g.Q.Raster.seen c.clocks_by_claim.new.raster) c.args.out.now c.clocks_by_claim.new.out))
    c.bus_clocks-clocks.ensures.same c.clocks_by_claim.ensures.part
