use Rattle.std.proofs.Common.{◌≡◌, ◌++◌, length}
use Rattle.ocs_base.specs.Memory.{words}
use Rattle.mem_versions.proofs.chip.push_words.Given as goal

abbrev pub invariant-loop-rest : goal.invariant-loop-rest
invariant-loop-rest l = l.into.items ++ words l.rest ≡ l.initial.into.items ++ words l.bytes

abbrev pub decreases-loop-rest : goal.decreases-loop-rest
decreases-loop-rest l = length l.rest
