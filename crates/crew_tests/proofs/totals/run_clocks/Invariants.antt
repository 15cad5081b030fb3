-- The foreground stands somewhere in the run, and the raster keeps its mark.
use Rattle.std.proofs.Common.{◌≡◌, ◌-◌, ◌*◌}
use Rattle.files_run.specs.Underway.{fore_of, CanRun}
use Rattle.crew_tests.proofs.totals.run_clocks.Given as goal

abbrev pub invariant-loop-fore : goal.invariant-loop-fore
invariant-loop-fore g l =
    let seen = g.Q.Raster.seen in
    record {
      able : CanRun (fore_of l.fore) (seen l.raster);
      run : (fore_of l.fore).run ≡ (fore_of l.initial.fore).run;
      mark : (seen l.raster).mark ≡ (seen l.initial.raster).mark;
    }

abbrev pub decreases-loop-fore : goal.decreases-loop-fore
decreases-loop-fore g l = l.fore.run.script.frames * 71364 - l.fore.machine.t
