-- The writes behind are to another place.
use Rattle.std.proofs.Common.{◌≢◌, ℕ, ◌<◌, ◌≤◌, length, get_or}
use Rattle.mem_versions.specs.declared.write.Write.{Write}
use Rattle.mem_versions.proofs.replayed.Replayed.is_written_from.Given as goal

abbrev pub invariant-loop-left : goal.invariant-loop-left
invariant-loop-left l = record {
  within : l.left ≤ length l.self.writes;
  other : (k : ℕ) (d : Write) → l.left ≤ k → k < length l.self.writes → (get_or l.self.writes k d).place ≢ l.place;
}

abbrev pub decreases-loop-left : goal.decreases-loop-left
decreases-loop-left l = l.left
