-- The loads from `at` on were looked at; `odd` and `even` are the earliest starts among them and the new load.
use Rattle.planes.proofs.Pruning.{HasPruned}
use Rattle.planes.proofs.loads.drop_hidden.Given as goal

abbrev pub invariant-loop-at : goal.invariant-loop-at
invariant-loop-at l = HasPruned l.from l.load l.initial.kept.items l.kept.items l.at l.odd l.even

abbrev pub decreases-loop-at : goal.decreases-loop-at
decreases-loop-at l = l.at
