use Rattle.std.proofs.Common.{◌≡◌, ◌≤◌, ◌<◌, ◌-◌, max, false}
use Rattle.foreground.specs.Fore.{over, CanGo}
use Rattle.clock_loop.specs.code.Line.{AreInLine}
use Rattle.clock_loop.specs.RunTo.{RunsOn, RisesIn}
use Rattle.clock_loop.proofs.line.run_one_by_one.Given as goal

abbrev pub invariant-loop-left : goal.invariant-loop-left
invariant-loop-left g l =
    let seen = g.Q.Raster.seen in
    let of = over g.S.Side.seen in
    record {
      able : CanGo (of l.fore) (seen l.raster);
      runs : RunsOn (of l.initial.fore) (of l.fore) (seen l.initial.raster) (seen l.raster) l.initial.out l.out;
      run : (of l.fore).run ≡ (of l.initial.fore).run;
      on : l.initial.fore.machine.t ≤ l.fore.machine.t;
      most : l.fore.machine.t ≤ max l.initial.fore.machine.t l.limit;
      reads : RisesIn (of l.initial.fore).run l.initial.fore.machine.t (l.fore.machine.t - l.initial.fore.machine.t)
          l.initial.fore.machine.chip.reads l.fore.machine.chip.reads;
      fresh : l.fore.spent ≡ false;
      still : l.fore.machine.t ≡ l.initial.fore.machine.t → l.fore ≡ l.initial.fore;
      line : 0 < l.left → AreInLine l.limit l.left (of l.fore);
    }

abbrev pub decreases-loop-left : goal.decreases-loop-left
decreases-loop-left g l = l.left
