-- The pages so far have the words of the base.
use Rattle.std.proofs.Common.{◌≡◌, ◌*◌, length}
use Rattle.mem_versions.specs.code.Replay.{HoldsPages}
use Rattle.mem_versions.proofs.replayed.put_pages.Given as goal

abbrev pub invariant-loop-index : goal.invariant-loop-index
invariant-loop-index l = record {
  room : length l.words.items ≡ 256 * length l.numbers;
  begun : HoldsPages l.base l.numbers l.words.items l.index;
}
