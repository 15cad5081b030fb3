use Rattle.std.proofs.Common.{length}
use Rattle.script_read.specs.Split.{lines_of}
use Rattle.script_read.specs.Versions.{begun}
use Rattle.script_read.proofs.BodyLaws.{StandsAt}
use Rattle.script_read.proofs.reader.read_body.Given as goal

abbrev pub invariant-loop-line : goal.invariant-loop-line
invariant-loop-line l = record {
  stands : StandsAt (begun l.head) l.first (lines_of l.text) l.script l.number l.before (lines_of l.rest);
}

abbrev pub decreases-loop-line : goal.decreases-loop-line
decreases-loop-line l = length l.rest
