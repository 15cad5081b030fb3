use Rattle.std.proofs.Common.{◌≡◌, ◌-◌, ◌*◌}
use Rattle.ocs_io.specs.Place.{OnlyWrites}
use Rattle.out_files.specs.Answers.{AreGrowable}
use Rattle.out_files.specs.Places.{LeavesPlace}
use Rattle.files_run.specs.Underway.{fore_of, CanRun, Runs, IsOfSameRun}
use Rattle.files_run.proofs.run.run_clocks.Given as goal

abbrev pub invariant-loop-fore : goal.invariant-loop-fore
invariant-loop-fore g l =
    let outside = g.P.Place.outside in
    let seen = g.Q.Raster.seen in
    record {
      growable : AreGrowable (g.P.Place.growable l.place) l.out.names;
      able : CanRun (fore_of l.fore) (seen l.raster);
      runs : Runs (fore_of l.initial.fore) (fore_of l.fore) (seen l.initial.raster) (seen l.raster) l.initial.out l.out
          (outside l.initial.place).files (outside l.place).files;
      same : IsOfSameRun (fore_of l.initial.fore) (fore_of l.fore) l.initial.out l.out l.audio;
      mark : (seen l.raster).mark ≡ (seen l.initial.raster).mark;
      place : LeavesPlace OnlyWrites outside g.P.Place.readable g.P.Place.growable l.initial.place l.place;
      on : l.audio.on ≡ l.initial.audio.on;
    }

abbrev pub decreases-loop-fore : goal.decreases-loop-fore
decreases-loop-fore g l = l.fore.run.script.frames * 71364 - l.fore.machine.t
