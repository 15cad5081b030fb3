use Rattle.std.proofs.Common.{◌≡◌, ◌≤◌, ◌+◌, ◌-◌, false}
use Rattle.chip_set.specs.Bus.{IsUnitKept}
use Rattle.clock_loop.specs.code.BusRun.{CanMakeClocks, HasRunOnBus}
use Rattle.foreground.specs.Fore.{over, CanGo}
use Rattle.clock_loop.proofs.bus.clocks_up_to.Given as goal

abbrev pub invariant-loop-unit : goal.invariant-loop-unit
invariant-loop-unit g l =
    let seen = g.Q.Raster.seen in
    let of = over g.S.Side.seen in
    record {
      able : CanGo (of l.fore) (seen l.raster);
      ran : HasRunOnBus l.limit (of l.initial.fore) (of l.fore) (seen l.initial.raster) (seen l.raster) l.initial.out l.out;
      run : (of l.fore).run ≡ (of l.initial.fore).run;
      fresh : l.fore.spent ≡ false;
      still : l.fore.machine.t ≡ l.initial.fore.machine.t → l.fore ≡ l.initial.fore;
      unit : IsUnitKept l.unit l.fore.machine.beam.h l.fore.machine.chips.last;
      room : l.fore.machine.t + l.rest ≤ l.end;
      can : CanMakeClocks l.limit (l.end - l.fore.machine.t) (g.T.Turn.rules l.turn) l.rest l.claim (of l.fore);
    }

abbrev pub decreases-loop-unit : goal.decreases-loop-unit
decreases-loop-unit g l = l.end - l.fore.machine.t
