use Rattle.std.proofs.Common.{◌≤◌, ◌<◌, ◌-◌, ℕ, List, length, get_or}
use Rattle.ocs_rewind.specs.Ring.{EntryOf}
use Rattle.ocs_rewind.proofs.ring.Ring.count_up_to.Given as goal

pub record Invariant {T : Type 0} (entries : List (EntryOf T)) (c count : ℕ) : Type 0 where
  pub within : count ≤ length entries
  pub below : (k : ℕ) (d : EntryOf T) → k < count → k < length entries → (get_or entries k d).at.0 ≤ c

abbrev pub invariant-loop-entry : goal.invariant-loop-entry
invariant-loop-entry g l = Invariant l.initial.self-inside.entries.items l.c.0 l.count

abbrev pub decreases-loop-entry : goal.decreases-loop-entry
decreases-loop-entry g l = length l.self-inside.entries.items - l.count
