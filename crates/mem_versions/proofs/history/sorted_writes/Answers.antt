-- A stable sort by place of writes whose clocks do not fall.
use Rattle.std.proofs.Common.{ap, ◌∙◌, rules}
use Rattle.std.specs.List.Sorted.{IsNonDecreasingBy}
use Rattle.std.proofs.lemmas.List.Sorted.{answers_always}
use Rattle.mem_versions.specs.declared.write.Write.{Write}
use Rattle.mem_versions.specs.MemoryAt.{writes_to}
use Rattle.mem_versions.proofs.OrderLaws.{IsInOrder-sorted, writes_to-sorted}
use Rattle.mem_versions.proofs.history.sorted_writes.Goals as goal

pub returns-clause-order : goal.returns-clause-order
returns-clause-order c =
    let rising : IsNonDecreasingBy (λ (w : Write). w.clock) c.in_ok-list.list.items = rw c.in_ok-list.ensures.items c.requires in
    IsInOrder-sorted c.in_ok-list.list.items c.sort_by_key.new.self.items rising
    (c.in_ok-sort_by_key.ensures.sorted (λ w. w.place) (answers_always _ _ _ (λ f a r g h. search rules)))
    (c.in_ok-sort_by_key.ensures.stable (λ w. w.place) (answers_always _ _ _ (λ f a r g h. search rules)))

pub returns-clause-same : goal.returns-clause-same
returns-clause-same c place =
    writes_to-sorted c.in_ok-list.list.items c.sort_by_key.new.self.items
    (c.in_ok-sort_by_key.ensures.stable (λ w. w.place) (answers_always _ _ _ (λ f a r g h. search rules))) place
    ∙ ap (writes_to place) c.in_ok-list.ensures.items
