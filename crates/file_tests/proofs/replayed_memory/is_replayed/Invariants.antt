-- The replay covers the same clocks still.
use Rattle.std.proofs.Common.{◌≡◌}
use Rattle.file_tests.proofs.replayed_memory.is_replayed.Given as goal

abbrev pub invariant-loop-row : goal.invariant-loop-row
invariant-loop-row l = record {
  from : l.replay.from ≡ 0;
  to : l.replay.to ≡ 10;
}
