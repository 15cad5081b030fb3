-- None of the writes is made.
use Rattle.std.proofs.Common.{List, subst}
use Rattle.mem_versions.specs.declared.write.Write.{Write}
use Rattle.mem_versions.specs.code.Replay.{AreMadeBetween}
use Rattle.mem_versions.proofs.ReplayLaws.{IsReplayed-begun}
use Rattle.mem_versions.proofs.replayed.Replayed.new.Goals as goal

pub invariant_of-result : goal.invariant_of-result
invariant_of-result c = (
  IsReplayed-begun c.args.base c.args.writes.items c.args.changed c.args.words.items c.requires.numbered c.requires.order c.requires.pages
      c.requires.covered c.requires.room c.requires.begun,
  subst (λ (ws : List Write). AreMadeBetween c.clocks_between-since.result.0 c.clocks_between-since.result.1 ws 0) c.deref.ensures.value
      c.clocks_between-since.ensures,
)
