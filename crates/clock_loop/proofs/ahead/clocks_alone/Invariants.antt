use Rattle.std.proofs.Common.{◌≡◌, ◌≤◌, ◌+◌, ◌-◌, None, false}
use Rattle.band_log.specs.Raster.{RasterValue}
use Rattle.clock_loop.specs.code.BusRun.{CanMakeClocks, HasRunOnBus}
use Rattle.foreground.specs.Fore.{over, CanGo}
use Rattle.clock_loop.proofs.ahead.clocks_alone.Given as goal

abbrev pub invariant-loop-made : goal.invariant-loop-made
invariant-loop-made g l =
    let of = over g.S.Side.seen in
    record {
      able : (seen : RasterValue) × CanGo (of l.fore) seen;
      ran : (seen : RasterValue) → HasRunOnBus l.limit (of l.initial.fore) (of l.fore) seen seen l.initial.out l.out;
      run : (of l.fore).run ≡ (of l.initial.fore).run;
      fresh : l.fore.spent ≡ false;
      most : l.made ≤ l.left;
      rest : l.made ≤ l.rest;
      count : l.fore.machine.t ≡ l.initial.fore.machine.t + l.made;
      can : CanMakeClocks l.limit (l.left - l.made) None (l.rest - l.made) l.claim (of l.fore);
      still : l.fore.machine.t ≡ l.initial.fore.machine.t → l.fore ≡ l.initial.fore;
    }

abbrev pub decreases-loop-made : goal.decreases-loop-made
decreases-loop-made g l = l.left - l.made
