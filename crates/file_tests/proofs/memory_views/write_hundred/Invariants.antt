-- A write of each number below the counter was kept.
use Rattle.std.proofs.Common.{◌≡◌, ◌+◌, ◌<◌, length}
use Rattle.file_tests.proofs.memory_views.write_hundred.Given as goal

abbrev pub invariant-loop-k : goal.invariant-loop-k
invariant-loop-k l =
    record {
      clock : l.chip.newest < l.k;
      count : length l.chip.writes + 1 ≡ l.k;
      last : l.chip.last ≡ 0;
    }
