-- The writes that are made are of clocks below.
use Rattle.std.proofs.Common.{◌≡◌, ◌-◌, ◌<◌, ℕ, length, get_or}
use Rattle.mem_versions.specs.declared.write.Write.{Write}
use Rattle.mem_versions.specs.code.Replay.{IsReplayed}
use Rattle.mem_versions.proofs.replayed.Replayed.make_writes.Given as goal

abbrev pub invariant-loop-self : goal.invariant-loop-self
invariant-loop-self l = record {
  base : l.self-inside.base ≡ l.initial.self-inside.base;
  writes : l.self-inside.writes.items ≡ l.initial.self-inside.writes.items;
  replayed : IsReplayed l.self-inside.base l.self-inside.writes.items l.self-inside.changed l.self-inside.words.items l.self-inside.next;
  early : (k : ℕ) (d : Write) → k < l.self-inside.next → (get_or l.self-inside.writes.items k d).clock < l.clock;
}

abbrev pub decreases-loop-self : goal.decreases-loop-self
decreases-loop-self l = length l.self-inside.writes.items - l.self-inside.next
