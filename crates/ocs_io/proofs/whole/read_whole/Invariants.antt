-- The loop keeps all bytes that were read, and comes nearer to the cap with each.
use Rattle.std.proofs.Common.{◌+◌, ◌-◌, length}
use Rattle.std.specs.Io.KnownBytes.{Consumes}
use Rattle.ocs_io.proofs.whole.read_whole.Given as goal

abbrev pub invariant-loop-buffer : goal.invariant-loop-buffer
invariant-loop-buffer g l =
    Consumes (g.F.Read.remaining l.initial.reader) (g.F.Read.remaining l.reader) l.into.items

abbrev pub decreases-loop-buffer : goal.decreases-loop-buffer
decreases-loop-buffer g l = l.cap + 1 - length l.into.items
