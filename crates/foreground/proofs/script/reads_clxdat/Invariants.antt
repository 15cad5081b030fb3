use Rattle.std.proofs.Common.{length}
use Rattle.foreground.proofs.ScriptLaws.{IsSearched}
use Rattle.foreground.proofs.script.reads_clxdat.Given as goal

abbrev pub invariant-loop-event : goal.invariant-loop-event
invariant-loop-event l = IsSearched l.beam l.events l.left

abbrev pub decreases-loop-event : goal.decreases-loop-event
decreases-loop-event l = length l.left
