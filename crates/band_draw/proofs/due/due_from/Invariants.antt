-- The writes before `next` that are due are counted.
use Rattle.std.proofs.Common.{◌≤◌, ◌-◌, length, drop}
use Rattle.band_draw.specs.code.Due.{IsCounted}
use Rattle.band_draw.proofs.due.due_from.Given as goal

abbrev pub invariant-loop-sets : goal.invariant-loop-sets
invariant-loop-sets l = IsCounted l.beam l.script (drop l.next l.script) l.sets × (l.next ≤ length l.script) × (l.sets ≤ l.next)

abbrev pub decreases-loop-sets : goal.decreases-loop-sets
decreases-loop-sets l = length l.script - l.next
