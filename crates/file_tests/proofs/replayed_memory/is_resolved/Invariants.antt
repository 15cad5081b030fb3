-- The base stays that behind the replay.
use Rattle.std.proofs.Common.{◌≡◌}
use Rattle.mem_versions.specs.MemoryAt.{memory_at}
use Rattle.file_tests.proofs.replayed_memory.is_resolved.Given as goal

abbrev pub invariant-loop-row : goal.invariant-loop-row
invariant-loop-row l = l.chip.base ≡ memory_at l.replay.to l.replay.base l.replay.writes
