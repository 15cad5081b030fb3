-- The writes behind are to another place, or come late.
use Rattle.std.proofs.Common.{ℕ, ◌<◌, ◌≤◌, length, get_or}
use Rattle.mem_versions.specs.declared.write.Write.{Write}
use Rattle.mem_versions.proofs.SearchLaws.{IsLate}
use Rattle.mem_versions.proofs.replayed.Replayed.word_before.Given as goal

abbrev pub invariant-loop-left : goal.invariant-loop-left
invariant-loop-left l = record {
  within : l.left ≤ length l.self.writes;
  late : (k : ℕ) (d : Write) → l.left ≤ k → k < length l.self.writes → IsLate l.place l.clock (get_or l.self.writes k d);
}

abbrev pub decreases-loop-left : goal.decreases-loop-left
decreases-loop-left l = l.left
