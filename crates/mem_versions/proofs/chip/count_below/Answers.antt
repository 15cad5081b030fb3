-- Clocks do not fall, so the writes below one come first.
use Rattle.std.proofs.Common.{not, nat_lt, ap, arith, rules}
use Rattle.std.proofs.lemmas.List.Sorted.{IsPartitionPoint-from_clause, IsPartitionedBy-ltb}
use Rattle.mem_versions.proofs.FilterLaws.{filter-front, filter-back}
use Rattle.mem_versions.proofs.chip.count_below.Goals as goal

pub returns-clause-below : goal.returns-clause-below
returns-clause-below c =
    let parted = IsPartitionedBy-ltb (λ w. w.clock) _ c.args.clock c.requires in
    let point = IsPartitionPoint-from_clause (λ w. nat_lt w.clock c.args.clock) _ _ c.partition_point.ensures.partitioned parted (λ a r q k. search rules) in
    filter-front (λ w. nat_lt w.clock c.args.clock) c.args.writes.now c.partition_point.result (λ k d before within. point.0 k d (omega arith) before)
    (λ k d from within. point.1 k d from within)

pub returns-clause-from : goal.returns-clause-from
returns-clause-from c =
    let parted = IsPartitionedBy-ltb (λ w. w.clock) _ c.args.clock c.requires in
    let point = IsPartitionPoint-from_clause (λ w. nat_lt w.clock c.args.clock) _ _ c.partition_point.ensures.partitioned parted (λ a r q k. search rules) in
    filter-back (λ w. not (nat_lt w.clock c.args.clock)) c.args.writes.now c.partition_point.result
    (λ k d before within. ap not (point.0 k d (omega arith) before))
    (λ k d from within. ap not (point.1 k d from within))
