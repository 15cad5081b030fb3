use Rattle.serial_model.specs.Side.{no_side}
use Rattle.foreground.specs.Fore.{over}
use Rattle.foreground_tests.proofs.BeginLaws.{begins}
use Rattle.foreground_tests.proofs.clocks_passed_over.stand_in_run.Goals as goal

pub stand_behind-requires-clause-fits : goal.stand_behind-requires-clause-fits
stand_behind-requires-clause-fits g c =
    begins _ (over (λ side. no_side) c.in_ok-fore.fore) (g.Q.Raster.seen c.args.raster.now) c.in_ok-fore.ensures c.requires.empty c.requires.first
    c.requires.unbound
