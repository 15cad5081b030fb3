-- The words after the writes so far.
use Rattle.std.proofs.Common.{◌≡◌, take}
use Rattle.mem_versions.specs.MemoryAt.{words_after}
use Rattle.mem_versions.proofs.replay.written_pages.Given as goal

abbrev pub invariant-loop-write : goal.invariant-loop-write
invariant-loop-write l = l.after ≡ words_after l.base (take l.write-index l.writes)
