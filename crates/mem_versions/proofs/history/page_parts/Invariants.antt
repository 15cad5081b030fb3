-- Each page that no further write is to has its part, and further writes are to higher pages.
use Rattle.std.proofs.Common.{◌-◌, length}
use Rattle.mem_versions.proofs.OrderLaws.{AreWalked}
use Rattle.mem_versions.proofs.history.page_parts.Given as goal

abbrev pub invariant-loop-start : goal.invariant-loop-start
invariant-loop-start l = AreWalked l.writes l.parts.items l.pages l.start

abbrev pub decreases-loop-start : goal.decreases-loop-start
decreases-loop-start l = length l.writes - l.start
