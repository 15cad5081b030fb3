-- The line ends the band, and the next one begins with the present place.
use Rattle.std.proofs.Common.{subst, sym, ap}
use Rattle.ocs_io.proofs.MapLaws.{on_err}
use Rattle.foreground.specs.Fore.{ForeValue, over}
use Rattle.foreground.specs.Steps.{BeginsClock, BeginsPart}
use Rattle.foreground.proofs.BeginLaws.{begins_at_line, line_part, line_requires}
use Rattle.foreground.proofs.ShownLaws.{shown_now}
use Rattle.foreground.proofs.fore.Fore.begin_at_line.Goals as goal

pub end_at_line-requires : goal.end_at_line-requires
end_at_line-requires g c =
    let found = line_requires (over g.S.Side.seen c.args.self.now) c.requires.underway.0 (g.Q.Raster.seen c.args.raster.now) c.requires.underway.1
    c.requires.place in
    record {
      stands = (c.requires.underway.0, found.2);
      before = c.requires.before;
      count = shown_now _ _ (over g.S.Side.seen c.args.self.now) c.requires.underway.0 c.shown_before-shown.result (g.Q.Raster.seen c.args.raster.now)
          c.system.ensures (ap (over g.S.Side.seen) c.self.view_is) c.requires.underway.1 c.shown_before-shown.ensures;
      line = found.0;
      begins = found.1;
    }

pub returns-clause-begins : goal.returns-clause-begins
returns-clause-begins g c =
    let seen = g.Q.Raster.seen in
    subst (λ (f : ForeValue). BeginsClock (over g.S.Side.seen c.args.self.now) f 0 (seen c.args.raster.now) (seen c.end_at_line.new.raster)
    c.args.out.now c.end_at_line.new.out) (sym (ap (over g.S.Side.seen) c.begin_log.ensures))
    (begins_at_line (over g.S.Side.seen c.args.self.now) (over g.S.Side.seen c.end_at_line.new.self) (seen c.args.raster.now) (seen c.end_at_line.new.raster)
    c.args.out.now c.end_at_line.new.out c.requires.running c.requires.unread c.in_ok-end_at_line.ensures.ends)

pub returns-in_err-end_at_line-clause-part : goal.returns-in_err-end_at_line-clause-part
returns-in_err-end_at_line-clause-part g c =
    let seen = g.Q.Raster.seen in
    on_err c.from_residual.result
    (BeginsPart (over g.S.Side.seen c.args.self.now) (seen c.args.raster.now) (seen c.end_at_line.new.raster) c.args.out.now c.end_at_line.new.out)
    (line_part (over g.S.Side.seen c.args.self.now) (seen c.args.raster.now) (seen c.end_at_line.new.raster) c.args.out.now c.end_at_line.new.out
    c.in_err-end_at_line.ensures.part)
