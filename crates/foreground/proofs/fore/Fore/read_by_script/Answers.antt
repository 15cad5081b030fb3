-- The band ends before the clock, if it does not begin with it, and all are gathered.
use Rattle.foreground.specs.Fore.{over}
use Rattle.std.proofs.Common.{rules, refl, arith, ap}
use Rattle.ocs_io.proofs.MapLaws.{on_err}
use Rattle.foreground.specs.Steps.{BeginsPart}
use Rattle.foreground.proofs.ReadingLaws.{script_place_now, script_ends_now, script_taken, script_part_now, all_taken, all_part}
use Rattle.foreground.proofs.ShownLaws.{shown_there}
use Rattle.foreground.proofs.fore.Fore.read_by_script.Goals as goal

pub end_at_read-requires : goal.end_at_read-requires
end_at_read-requires g c =
    let seen = g.Q.Raster.seen in
    let first = c.requires.0 in
    record {
      stands = (
        first,
        script_ends_now _ (over g.S.Side.seen c.args.self.now) first (seen c.args.raster.now) (ap (over g.S.Side.seen) c.self.view_is)
            c.requires.1 c.requires.2 c.if-self-to.true,
      );
      count = shown_there _ _ (over g.S.Side.seen c.args.self.now) first c.shown_before-shown.result (seen c.args.raster.now)
          c.system.ensures (ap (over g.S.Side.seen) c.self.view_is)
          c.requires.1 c.shown_before-shown.ensures;
      clock =
          script_place_now _ (over g.S.Side.seen c.args.self.now) first c.clock_before-h.result (seen c.args.raster.now)
          (ap (over g.S.Side.seen) c.self.view_is) c.requires.1 c.if-self-to.true
          c.clock_before-h.ensures;
    }

pub returns-in_err-end_at_read : goal.returns-in_err-end_at_read
returns-in_err-end_at_read g c =
    let seen = g.Q.Raster.seen in
    let part = on_err c.from_residual.result
    (BeginsPart (over g.S.Side.seen c.args.self.now) (seen c.args.raster.now) (seen c.end_at_read.new.raster) c.args.out.now c.end_at_read.new.out)
    (script_part_now _ (over g.S.Side.seen c.args.self.now) (seen c.args.raster.now) (seen c.end_at_read.new.raster) c.args.out.now
    c.end_at_read.new.out
    (ap (over g.S.Side.seen) c.self.view_is) c.requires.2 c.if-self-to.true c.in_err-end_at_read.ensures.part) in
    search (rules, part)

pub returns-then-self-to : goal.returns-then-self-to
returns-then-self-to g c =
    let seen = g.Q.Raster.seen in
    let bits = script_taken _ (over g.S.Side.seen c.args.self.now) (over g.S.Side.seen c.end_at_read.new.self) (over g.S.Side.seen c.take_bits.new.self)
    (seen c.args.raster.now) (seen c.end_at_read.new.raster)
    c.args.out.now c.end_at_read.new.out c.take_bits.result (ap (over g.S.Side.seen) c.self.view_is) c.requires.2 c.if-self-to.true
    c.in_ok-end_at_read.ensures.ends
    (ap (over g.S.Side.seen) c.take_bits.ensures.same) c.take_bits.ensures.bits in
    search (rules, bits)

pub returns-in_err-gather_all : goal.returns-in_err-gather_all
returns-in_err-gather_all g c =
    let seen = g.Q.Raster.seen in
    let part = on_err c.from_residual-in_err-gather_all.result
    (BeginsPart (over g.S.Side.seen c.args.self.now) (seen c.args.raster.now) (seen c.gather_all.new.raster) c.args.out.now c.gather_all.new.out)
    (all_part (over g.S.Side.seen c.args.self.now) (seen c.args.raster.now) (seen c.gather_all.new.raster) c.args.out.now c.gather_all.new.out
    c.in_err-gather_all.ensures.part) in
    search (rules, part)

pub returns : goal.returns
returns g c =
    let seen = g.Q.Raster.seen in
    let bits = all_taken _ (over g.S.Side.seen c.args.self.now) _ (over g.S.Side.seen c.take_bits-2.new.self) (seen c.args.raster.now)
    (seen c.gather_all.new.raster)
    c.args.out.now c.gather_all.new.out
    c.gather_all.new.clx c.take_bits-2.result c.in_ok-gather_all.field-0 (ap (over g.S.Side.seen) c.self.view_is) (omega (arith, c.if-self-to.false))
    c.in_ok-gather_all.ensures.gathered refl (ap (over g.S.Side.seen) c.take_bits-2.ensures.same) c.take_bits-2.ensures.bits in
    search (rules, bits)
