-- The word of the first writes is found, and the writes from the upper end on do not count.
use Rattle.std.proofs.Common.{◌≡◌, ℕ, ◌+◌, ◌-◌, ◌*◌, ◌^◌, ◌<◌, ◌≤◌, length, take, get_or}
use Rattle.mem_versions.specs.declared.write.Write.{Write}
use Rattle.mem_versions.specs.code.History.{word_before}
use Rattle.mem_versions.proofs.history.last_before.Given as goal

abbrev pub invariant-loop-low : goal.invariant-loop-low
invariant-loop-low g l =
    record {
      order : l.low ≤ l.high;
      within : l.high ≤ length l.writes;
      found : l.found ≡ word_before l.place l.clock (take l.low l.writes) l.word;
      higher : (k : ℕ) (d : Write) → l.high ≤ k → k < length l.writes → (get_or l.writes k d).place ≡ l.place → l.clock ≤ (get_or l.writes k d).clock;
      counted : l.initial.steps ≤ l.steps;
      halves : 2 ^ (l.steps - l.initial.steps) * (l.high - l.low) ≤ length l.writes;
      cost : 2 ^ (l.steps - l.initial.steps) ≤ 2 * length l.writes + 1;
    }

abbrev pub decreases-loop-low : goal.decreases-loop-low
decreases-loop-low g l = l.high - l.low
