-- A page's writes stand in its part of the list.
use Rattle.std.specs.List.{filter}
use Rattle.std.proofs.Common.{◌==◌, ◌-◌, ◌/◌, ◌<◌, ◌≤◌, List, take, drop, length, ap, sym, subst, ◌∙◌, arith}
use Rattle.std.proofs.lemmas.Bool.Decides.{nat_tests}
use Rattle.mem_versions.specs.declared.write.Write.{Write}
use Rattle.mem_versions.specs.code.History.{HistoryValue, IsInOrder}
use Rattle.mem_versions.proofs.OrderLaws.{IsInOrder-part, part_at}
use Rattle.mem_versions.proofs.history.History.page.Goals as goal

pub returns-in-Some-clause-writes : goal.returns-in-Some-clause-writes
returns-in-Some-clause-writes c =
    let n = c.args.number in
    let part = c.in-Some.part.now in
    let found : n < length c.deref.result.now = grind (arith, nat_tests, c.in-Some.ensures.lookup.0) in
    let here = part_at c.self.inside.writes.items c.self.inside.parts.items c.deref.result.now c.self.inside.pages n part c.self.invariant
    c.deref.ensures.value found c.in-Some.ensures.lookup.1 in
    c.part_of.ensures ∙ ap (λ (ws : List Write). take (part.end - part.start) (drop part.start ws)) c.deref-in-Some.ensures.value ∙ here.those
    ∙ ap (λ (h : HistoryValue). filter (λ w. w.place / 256 == n) h.writes) c.self.view_is

pub returns-in-None-clause-writes : goal.returns-in-None-clause-writes
returns-in-None-clause-writes c =
    let n = c.args.number in
    let parts = c.self.inside.parts.items in
    let missed : length c.deref.result.now ≤ n = grind (arith, nat_tests, c.in-None.ensures.lookup.0) in
    let above : length parts ≤ n = omega (arith, missed, ap length c.deref.ensures.value) in
    let within : n < c.self.inside.pages = omega (arith, c.requires, ap (λ (h : HistoryValue). h.pages) c.self.view_is) in
    sym (ap (filter (λ w. w.place / 256 == n)) (c.self.invariant.none n above within))
    ∙ ap (λ (h : HistoryValue). filter (λ w. w.place / 256 == n) h.writes) c.self.view_is

pub part_of-requires-clause-order : goal.part_of-requires-clause-order
part_of-requires-clause-order c =
    let n = c.args.number in
    let part = c.in-Some.part.now in
    let found : n < length c.deref.result.now = grind (arith, nat_tests, c.in-Some.ensures.lookup.0) in
    let here = part_at c.self.inside.writes.items c.self.inside.parts.items c.deref.result.now c.self.inside.pages n part c.self.invariant
    c.deref.ensures.value found c.in-Some.ensures.lookup.1 in
    here.order

pub part_of-requires-clause-within : goal.part_of-requires-clause-within
part_of-requires-clause-within c =
    let n = c.args.number in
    let part = c.in-Some.part.now in
    let found : n < length c.deref.result.now = grind (arith, nat_tests, c.in-Some.ensures.lookup.0) in
    let here = part_at c.self.inside.writes.items c.self.inside.parts.items c.deref.result.now c.self.inside.pages n part c.self.invariant
    c.deref.ensures.value found c.in-Some.ensures.lookup.1 in
    omega (arith, here.within, ap length c.deref-in-Some.ensures.value)

pub returns-in-Some-clause-order : goal.returns-in-Some-clause-order
returns-in-Some-clause-order c =
    let part = c.in-Some.part.now in
    subst IsInOrder (sym (c.part_of.ensures ∙ ap (λ (ws : List Write). take (part.end - part.start) (drop part.start ws)) c.deref-in-Some.ensures.value))
    (IsInOrder-part c.self.inside.writes.items part.start (part.end - part.start) c.self.invariant.order)

pub returns-in-None-clause-order : goal.returns-in-None-clause-order
returns-in-None-clause-order c = λ i j d le within. absurd (omega arith)
