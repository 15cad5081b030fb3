-- The fetches of the clocks before `reached` have been made. The view is the first one.
use Rattle.std.proofs.Common.{◌≡◌, ◌≤◌, ◌-◌, length}
use Rattle.serial_bands.specs.Run.{run_over}
use Rattle.band_draw.specs.code.Ahead.{IsFetched}
use Rattle.band_draw.proofs.progress.Progress.fetch_ahead.Given as goal

abbrev pub invariant-loop-fetch : goal.invariant-loop-fetch
invariant-loop-fetch g l = record {
  fetched : IsFetched (run_over g.S.Side.seen l.run) l.events l.initial.self (record l.self { next = l.next }) l.reached;
  most : l.reached ≤ l.end;
  view : l.view ≡ l.initial.view;
}

abbrev pub decreases-loop-fetch : goal.decreases-loop-fetch
decreases-loop-fetch g l = length l.events - l.next
