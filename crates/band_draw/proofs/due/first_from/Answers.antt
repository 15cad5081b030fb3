use Rattle.std.proofs.Common.{drop, nat_lt, rules, subst}
use Rattle.std.proofs.lemmas.List.Sorted.{IsPartitionPoint-from_clause, IsPartitionedBy-ltb}
use Rattle.ocs_base.specs.Limits.{time_of}
use Rattle.ocs_base.specs.declared.script.At.{At}
use Rattle.band_draw.specs.code.Due.{IsLeft}
use Rattle.band_draw.proofs.Dues.{rising, left_at}
use Rattle.band_draw.proofs.due.first_from.Goals as goal

pub returns-clause-left : goal.returns-clause-left
returns-clause-left c =
    let script = c.args.script.now in
    let place = c.order-place.result in
    let point =
    IsPartitionPoint-from_clause (λ (e : At). nat_lt (time_of e) place) script c.partition_point-next.result c.partition_point-next.ensures.partitioned
    (IsPartitionedBy-ltb (λ (e : At). time_of e) script place (rising script c.requires.order)) (λ a r q k. search rules) in
    subst (λ p. IsLeft p script (drop c.partition_point-next.result script)) c.order-place.ensures
    (left_at c.requires.system c.requires.frames place c.partition_point-next.result script c.requires.order c.requires.limits point)
