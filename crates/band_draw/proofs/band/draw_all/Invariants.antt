-- All clocks before the next one are drawn. The view is the first one.
use Rattle.std.proofs.Common.{◌≡◌, ◌-◌, length}
use Rattle.serial_bands.specs.Run.{run_over}
use Rattle.band_draw.specs.code.Progress.{IsAt}
use Rattle.band_draw.proofs.band.draw_all.Given as goal

abbrev pub invariant-loop-p : goal.invariant-loop-p
invariant-loop-p g l = record {
  at : IsAt (run_over g.S.Side.seen l.run) l.events l.room l.p;
  from : l.p.from ≡ l.initial.p.from;
  to : l.p.to ≡ l.initial.p.to;
  size : length l.room ≡ length l.initial.room;
  view : l.view ≡ l.initial.view;
}

abbrev pub decreases-loop-p : goal.decreases-loop-p
decreases-loop-p g l = l.p.to - l.p.clock
