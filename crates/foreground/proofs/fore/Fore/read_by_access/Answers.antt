-- The band ends behind the clock, and all are gathered.
use Rattle.std.proofs.Common.{rules, ◌≡◌, ◌+◌, ◌-◌, ◌<◌, ◌^◌, subst, sym, arith, ap}
use Rattle.ocs_io.proofs.MapLaws.{on_err}
use Rattle.ocs_base.specs.declared.beam.Beam.{Beam}
use Rattle.serial_bands.specs.Run.{run_over, beam_at}
use Rattle.foreground.specs.code.Cuts.{StandsAtEnd}
use Rattle.foreground.specs.Fore.{ForeValue, over}
use Rattle.foreground.specs.Steps.{AccessesPart}
use Rattle.foreground.proofs.ReadingLaws.{access_place, access_ends, access_small_now, access_taken, access_part_now}
use Rattle.foreground.proofs.NewLaws.{good_over}
use Rattle.foreground.proofs.ShownLaws.{shown_within}
use Rattle.foreground.proofs.fore.Fore.read_by_access.Goals as goal

pub overflow_add-to : goal.overflow_add-to
overflow_add-to g c =
    let small : c.self.inside.machine.t + 1 < 2 ^ 64 =
    access_small_now _ (over g.S.Side.seen c.args.self.now) (run_over g.S.Side.seen c.deref.result.now) (g.Q.Raster.seen c.args.raster.now)
    (ap (over g.S.Side.seen) c.self.view_is) (ap (run_over g.S.Side.seen) c.deref.ensures)
    (good_over g.S.Side.seen c.deref.result.now c.height-height.ensures.good) c.requires in
    omega (arith, small)

pub end_at_read-requires : goal.end_at_read-requires
end_at_read-requires g c =
    let old : ForeValue = (over g.S.Side.seen c.args.self.now) in
    let first = c.requires.0 in
    record {
      stands = (
        first,
        subst (λ (o : ForeValue). StandsAtEnd (o.machine.t + 1) first old (g.Q.Raster.seen c.args.raster.now)) (sym (ap (over g.S.Side.seen) c.self.view_is))
            (access_ends old first (g.Q.Raster.seen c.args.raster.now) c.requires.1 c.requires.2),
      );
      clock = λ inner. subst (λ (o : ForeValue). o.machine.beam.h ≡ (beam_at old.run (o.machine.t + 1 - 1)).h) (sym (ap (over g.S.Side.seen) c.self.view_is))
          (access_place old.run old.machine.t old.machine.beam.h (ap (λ (b : Beam). b.h) c.requires.3));
      count = shown_within _ _ old c.shown_behind-shown.result c.system.ensures (ap (over g.S.Side.seen) c.self.view_is) c.requires.3
          c.shown_behind-shown.ensures;
    }

pub returns : goal.returns
returns g c =
    let seen = g.Q.Raster.seen in
    let bits = access_taken _ (over g.S.Side.seen c.args.self.now) (over g.S.Side.seen c.end_at_read.new.self) (over g.S.Side.seen c.take_bits.new.self)
    (seen c.args.raster.now) (seen c.end_at_read.new.raster)
    c.args.out.now c.end_at_read.new.out c.take_bits.result (ap (over g.S.Side.seen) c.self.view_is) c.requires.2 c.in_ok-end_at_read.ensures.ends
    (ap (over g.S.Side.seen) c.take_bits.ensures.same) c.take_bits.ensures.bits in
    search (rules, bits)

pub returns-in_err-end_at_read : goal.returns-in_err-end_at_read
returns-in_err-end_at_read g c =
    let seen = g.Q.Raster.seen in
    let part = on_err c.from_residual.result
    (AccessesPart (over g.S.Side.seen c.args.self.now) (seen c.args.raster.now) (seen c.end_at_read.new.raster) c.args.out.now c.end_at_read.new.out)
    (access_part_now _ (over g.S.Side.seen c.args.self.now) (seen c.args.raster.now) (seen c.end_at_read.new.raster) c.args.out.now
    c.end_at_read.new.out
    (ap (over g.S.Side.seen) c.self.view_is) c.requires.2 c.in_err-end_at_read.ensures.part) in
    search (rules, part)
