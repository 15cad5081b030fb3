-- The read ends the band, and the next one begins with the present place.
use Rattle.std.proofs.Common.{subst, sym, ap}
use Rattle.foreground.specs.Fore.{ForeValue, over}
use Rattle.foreground.specs.Steps.{BeginsClock}
use Rattle.foreground.proofs.BeginLaws.{begins_by_read}
use Rattle.foreground.proofs.fore.Fore.begin_at_read.Goals as goal

pub returns-clause-begins : goal.returns-clause-begins
returns-clause-begins g c =
    let seen = g.Q.Raster.seen in
    subst (λ (f : ForeValue). BeginsClock (over g.S.Side.seen c.args.self.now) f c.in_ok-clx.clx (seen c.args.raster.now) (seen c.gather_clxdat.new.raster)
    c.args.out.now c.gather_clxdat.new.out) (sym (ap (over g.S.Side.seen) c.begin_log.ensures))
    (begins_by_read (over g.S.Side.seen c.args.self.now) (over g.S.Side.seen c.gather_clxdat.new.self) c.in_ok-clx.clx (seen c.args.raster.now)
    (seen c.gather_clxdat.new.raster)
    c.args.out.now c.gather_clxdat.new.out c.requires c.in_ok-clx.ensures.bits)
