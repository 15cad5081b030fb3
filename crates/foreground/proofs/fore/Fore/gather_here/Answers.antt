-- The band ends before the clock, if it does not begin with it, and all are gathered.
use Rattle.std.proofs.Common.{arith, ap}
use Rattle.ocs_io.proofs.MapLaws.{on_err}
use Rattle.foreground.specs.Fore.{GivesPart, over}
use Rattle.foreground.proofs.ReadingLaws.{script_place_now}
use Rattle.foreground.proofs.SaveLaws.{save_ends_now, saves_open_now, saves_closed_now, save_part_now}
use Rattle.foreground.proofs.SettleLaws.{settle_gather_part}
use Rattle.foreground.proofs.ShownLaws.{shown_there}
use Rattle.foreground.proofs.fore.Fore.gather_here.Goals as goal

pub end_at_read-requires : goal.end_at_read-requires
end_at_read-requires g c =
    let seen = g.Q.Raster.seen in
    let first = c.requires.underway.0 in
    record {
      stands = (
        first,
        save_ends_now _ (over g.S.Side.seen c.args.self.now) first (seen c.args.raster.now) (ap (over g.S.Side.seen) c.self.view_is)
            c.requires.underway.1 c.requires.place c.if-self-to.true,
      );
      count = shown_there _ _ (over g.S.Side.seen c.args.self.now) first c.shown_before-shown.result (seen c.args.raster.now)
          c.system.ensures (ap (over g.S.Side.seen) c.self.view_is)
          c.requires.underway.1 c.shown_before-shown.ensures;
      clock =
          script_place_now _ (over g.S.Side.seen c.args.self.now) first c.clock_before-h.result (seen c.args.raster.now)
          (ap (over g.S.Side.seen) c.self.view_is) c.requires.underway.1 c.if-self-to.true
          c.clock_before-h.ensures;
    }

pub returns-in_err-end_at_read-clause-part : goal.returns-in_err-end_at_read-clause-part
returns-in_err-end_at_read-clause-part g c =
    let seen = g.Q.Raster.seen in
    on_err c.from_residual.result
    (GivesPart (over g.S.Side.seen c.args.self.now) (seen c.args.raster.now) (seen c.end_at_read.new.raster) c.args.out.now c.end_at_read.new.out)
    (save_part_now _ (over g.S.Side.seen c.args.self.now) (seen c.args.raster.now) (seen c.end_at_read.new.raster) c.args.out.now c.end_at_read.new.out
    (ap (over g.S.Side.seen) c.self.view_is) c.requires.place c.if-self-to.true c.in_err-end_at_read.ensures.part)

pub returns-then-self-to-clause-saved : goal.returns-then-self-to-clause-saved
returns-then-self-to-clause-saved g c =
    let seen = g.Q.Raster.seen in
    saves_open_now _ (over g.S.Side.seen c.args.self.now) (over g.S.Side.seen c.end_at_read.new.self) (seen c.args.raster.now)
    (seen c.end_at_read.new.raster) c.args.out.now c.end_at_read.new.out (ap (over g.S.Side.seen) c.self.view_is) c.requires.place c.if-self-to.true
    c.in_ok-end_at_read.ensures.ends

pub returns-in_err-gather_all-clause-part : goal.returns-in_err-gather_all-clause-part
returns-in_err-gather_all-clause-part g c =
    let seen = g.Q.Raster.seen in
    on_err c.from_residual-in_err-gather_all.result
    (GivesPart (over g.S.Side.seen c.args.self.now) (seen c.args.raster.now) (seen c.gather_all.new.raster) c.args.out.now c.gather_all.new.out)
    (settle_gather_part (over g.S.Side.seen c.args.self.now) (seen c.args.raster.now) (seen c.gather_all.new.raster) c.args.out.now c.gather_all.new.out
    c.in_err-gather_all.ensures.part)

pub returns-clause-saved : goal.returns-clause-saved
returns-clause-saved g c =
    let seen = g.Q.Raster.seen in
    saves_closed_now _ (over g.S.Side.seen c.args.self.now) (seen c.args.raster.now) (seen c.gather_all.new.raster) c.args.out.now c.gather_all.new.out
    c.gather_all.new.clx c.in_ok-gather_all.field-0 (ap (over g.S.Side.seen) c.self.view_is) (omega (arith, c.if-self-to.false))
    c.in_ok-gather_all.ensures.none c.in_ok-gather_all.ensures.gathered
