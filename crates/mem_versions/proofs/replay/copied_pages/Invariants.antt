-- The pages so far are those of the words.
use Rattle.mem_versions.proofs.ReplayLaws.{AreCopied}
use Rattle.mem_versions.proofs.replay.copied_pages.Given as goal

abbrev pub invariant-loop-number : goal.invariant-loop-number
invariant-loop-number l = AreCopied l.base l.words l.after l.numbers l.number-index
