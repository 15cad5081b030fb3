-- All writes from the first on up to the walk's place are to the page.
use Rattle.std.proofs.Common.{◌≡◌, ℕ, ◌/◌, ◌-◌, ◌<◌, ◌≤◌, length, get_or}
use Rattle.mem_versions.specs.declared.write.Write.{Write}
use Rattle.mem_versions.proofs.history.page_end.Given as goal

abbrev pub invariant-loop-end : goal.invariant-loop-end
invariant-loop-end l =
    record {
      some : l.start < l.end;
      within : l.end ≤ length l.writes;
      same : (k : ℕ) (d : Write) → l.start ≤ k → k < l.end → (get_or l.writes k d).place / 256 ≡ l.page;
    }

abbrev pub decreases-loop-end : goal.decreases-loop-end
decreases-loop-end l = length l.writes - l.end

abbrev pub invariant-loop-end-2 : goal.invariant-loop-end-2
invariant-loop-end-2 l =
    record {
      some : l.start < l.end;
      within : l.end ≤ length l.writes;
      same : (k : ℕ) (d : Write) → l.start ≤ k → k < l.end → (get_or l.writes k d).place / 256 ≡ l.page;
    }

abbrev pub decreases-loop-end-2 : goal.decreases-loop-end-2
decreases-loop-end-2 l = length l.writes - l.end
