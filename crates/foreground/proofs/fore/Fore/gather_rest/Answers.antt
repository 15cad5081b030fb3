-- The band that is open ends with the run, and all are gathered.
use Rattle.std.proofs.Common.{arith, ap}
use Rattle.ocs_io.proofs.MapLaws.{on_err}
use Rattle.foreground.specs.Fore.{GivesPart, over}
use Rattle.foreground.proofs.SettleLaws.{settle_ends_now, settles_open_now, settles_closed_now, settle_part_now, settle_gather_part}
use Rattle.foreground.proofs.ShownLaws.{shown_there}
use Rattle.foreground.proofs.fore.Fore.gather_rest.Goals as goal

pub end_all-requires : goal.end_all-requires
end_all-requires g c = record {
  stands = (
    c.requires.underway.0,
    settle_ends_now _ (over g.S.Side.seen c.args.self.now) c.requires.underway.0 (g.Q.Raster.seen c.args.raster.now) (ap (over g.S.Side.seen) c.self.view_is)
        c.requires.underway.1 c.requires.done c.if-self-to.true,
  );
  count = shown_there _ _ (over g.S.Side.seen c.args.self.now) c.requires.underway.0 c.shown_before-shown.result (g.Q.Raster.seen c.args.raster.now)
      c.system.ensures (ap (over g.S.Side.seen) c.self.view_is) c.requires.underway.1 c.shown_before-shown.ensures;
}

pub returns-in_err-end_all-clause-part : goal.returns-in_err-end_all-clause-part
returns-in_err-end_all-clause-part g c =
    let seen = g.Q.Raster.seen in
    on_err c.from_residual.result
    (GivesPart (over g.S.Side.seen c.args.self.now) (seen c.args.raster.now) (seen c.end_all.new.raster) c.args.out.now c.end_all.new.out)
    (settle_part_now _ (over g.S.Side.seen c.args.self.now) (seen c.args.raster.now) (seen c.end_all.new.raster) c.args.out.now c.end_all.new.out
    (ap (over g.S.Side.seen) c.self.view_is) c.requires.done c.if-self-to.true c.in_err-end_all.ensures.part)

pub returns-then-self-to-clause-settled : goal.returns-then-self-to-clause-settled
returns-then-self-to-clause-settled g c =
    let seen = g.Q.Raster.seen in
    settles_open_now _ (over g.S.Side.seen c.args.self.now) (over g.S.Side.seen c.end_all.new.self) (seen c.args.raster.now) (seen c.end_all.new.raster)
    c.args.out.now c.end_all.new.out
    c.in_ok-end_all.field-0 (ap (over g.S.Side.seen) c.self.view_is) c.requires.done c.if-self-to.true c.in_ok-end_all.ensures.none c.in_ok-end_all.ensures.ends

pub returns-in_err-gather_all-clause-part : goal.returns-in_err-gather_all-clause-part
returns-in_err-gather_all-clause-part g c =
    let seen = g.Q.Raster.seen in
    on_err c.from_residual-in_err-gather_all.result
    (GivesPart (over g.S.Side.seen c.args.self.now) (seen c.args.raster.now) (seen c.gather_all.new.raster) c.args.out.now c.gather_all.new.out)
    (settle_gather_part (over g.S.Side.seen c.args.self.now) (seen c.args.raster.now) (seen c.gather_all.new.raster) c.args.out.now c.gather_all.new.out
    c.in_err-gather_all.ensures.part)

pub returns-clause-settled : goal.returns-clause-settled
returns-clause-settled g c =
    let seen = g.Q.Raster.seen in
    settles_closed_now _ (over g.S.Side.seen c.args.self.now) (seen c.args.raster.now) (seen c.gather_all.new.raster) c.args.out.now c.gather_all.new.out
    c.gather_all.new.clx c.in_ok-gather_all.field-0 (ap (over g.S.Side.seen) c.self.view_is) c.requires.done (omega (arith, c.if-self-to.false))
    c.in_ok-gather_all.ensures.none c.in_ok-gather_all.ensures.gathered
