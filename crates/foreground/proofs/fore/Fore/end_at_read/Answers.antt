-- The last band's closing picture state opens the next band.
use Rattle.foreground.specs.Fore.{over}
use Rattle.std.proofs.Common.{subst, Option, ap}
use Rattle.serial_model.specs.declared.picture.Denise.{Denise}
use Rattle.foreground.specs.code.Cuts.{EndsAll}
use Rattle.foreground.proofs.CutLaws.{ends_at_read_now}
use Rattle.foreground.proofs.fore.Fore.end_at_read.Goals as goal

pub returns-in-Some-clause-ends : goal.returns-in-Some-clause-ends
returns-in-Some-clause-ends g c =
    let seen = g.Q.Raster.seen in
    ends_at_read_now c.args.to c.args.h (over g.S.Side.seen c.args.self.now) _ (over g.S.Side.seen c.end_all.new.self) (seen c.args.raster.now)
    (seen c.end_all.new.raster)
    c.args.out.now c.end_all.new.out c.in-Some.closing c.open_with.new.self (ap (over g.S.Side.seen) c.self.view_is)
    (subst (λ (o : Option Denise). EndsAll c.args.to (over g.S.Side.seen c.args.self.now) (over g.S.Side.seen c.end_all.new.self) (seen c.args.raster.now)
    (seen c.end_all.new.raster)
    c.args.out.now c.end_all.new.out o) c.in-Some.is c.in_ok-closing.ensures.ends)
    c.open_with.ensures.log c.open_with.ensures.from c.open_with.ensures.number c.requires.clock
