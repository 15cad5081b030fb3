-- The pages of the writes so far have the present words, and each turn has more writes behind it.
use Rattle.std.proofs.Common.{◌-◌, length}
use Rattle.mem_versions.proofs.ChangedLaws.{AreChanged}
use Rattle.mem_versions.proofs.chip.changed_pages.Given as goal

abbrev pub invariant-loop-next : goal.invariant-loop-next
invariant-loop-next l = AreChanged l.base l.words l.after l.history.writes l.count l.next

abbrev pub decreases-loop-next : goal.decreases-loop-next
decreases-loop-next l = length l.history.writes - l.next
