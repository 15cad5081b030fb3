-- All bands are gathered, and what is then kept stands for the same state.
use Rattle.foreground.specs.Fore.{over}
use Rattle.foreground.proofs.SaveLaws.{is_saved, part_of_all}
use Rattle.foreground.proofs.fore.Fore.save_here.Goals as goal

pub returns-in-Ok-clause-checkpoint : goal.returns-in-Ok-clause-checkpoint
returns-in-Ok-clause-checkpoint g c =
    let seen = g.Q.Raster.seen in
    is_saved g.S.Side.seen (over g.S.Side.seen c.args.self.now) c.gather_here.new.self c.in-Ok.kept (seen c.args.raster.now)
    (seen c.gather_here.new.raster) c.args.out.now c.gather_here.new.out c.in_ok-gather_here.ensures.saved c.in-Ok.ensures

pub returns-in-Err-clause-part : goal.returns-in-Err-clause-part
returns-in-Err-clause-part g c =
    let seen = g.Q.Raster.seen in
    part_of_all (over g.S.Side.seen c.args.self.now) (over g.S.Side.seen c.gather_here.new.self) (seen c.args.raster.now)
    (seen c.gather_here.new.raster) c.args.out.now c.gather_here.new.out c.in_ok-gather_here.ensures.saved
