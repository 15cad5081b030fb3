-- The view has no more writes than were made.
use Rattle.std.proofs.Common.{nat_lt, arith}
use Rattle.std.proofs.lemmas.List.Sums.{length-filter, count_by-le-length}
use Rattle.mem_versions.specs.declared.write.Write.{Write}
use Rattle.file_tests.proofs.memory_views.hundred_writes.Goals as goal

pub returns-clause-few : goal.returns-clause-few
returns-clause-few c =
    let writes = c.write_hundred.new.chip.writes in
    omega (
      arith,
      c.in_ok-view.ensures.view.count,
      length-filter (λ (w : Write). nat_lt w.clock 200) writes,
      count_by-le-length (λ (w : Write). nat_lt w.clock 200) writes,
    )
