-- The loop has written the piece up to the rest, which grows shorter.
use Rattle.std.proofs.Common.{length}
use Rattle.ocs_io.proofs.WholeLaws.{IsWrittenUpTo}
use Rattle.ocs_io.proofs.whole.write_whole.Given as goal

abbrev pub invariant-loop-rest : goal.invariant-loop-rest
invariant-loop-rest g l =
    IsWrittenUpTo (g.W.Write.contents l.initial.writer) (g.W.Write.contents l.writer) l.piece l.rest

abbrev pub decreases-loop-rest : goal.decreases-loop-rest
decreases-loop-rest g l = length l.rest
