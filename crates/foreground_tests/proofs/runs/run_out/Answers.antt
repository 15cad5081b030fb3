use Rattle.serial_model.specs.Side.{no_side}
use Rattle.foreground.specs.Fore.{over}
use Rattle.foreground_tests.proofs.BeginLaws.{begins}
use Rattle.foreground_tests.proofs.runs.run_out.Goals as goal

pub count_reads-requires-clause-fits : goal.count_reads-requires-clause-fits
count_reads-requires-clause-fits g c =
    begins _ (over (λ side. no_side) c.in_ok-fore.fore) (g.Q.Raster.seen c.args.raster.now) c.in_ok-fore.ensures c.requires.empty c.requires.first
    c.requires.unbound
