-- It is a new one, and the raster took no band yet.
use Rattle.foreground_tests.proofs.BeginLaws.{begins}
use Rattle.foreground_tests.proofs.side_runs.run_whole_over_a_side.Goals as goal

pub run_clocks-requires-clause-fits : goal.run_clocks-requires-clause-fits
run_clocks-requires-clause-fits g c =
    begins _ _ (g.Q.Raster.seen c.args.raster.now) c.in_ok-fore.ensures c.requires.empty c.requires.first c.requires.unbound
