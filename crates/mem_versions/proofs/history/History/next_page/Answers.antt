-- The writes of a part are to its page.
use Rattle.std.proofs.Common.{◌≡◌, ◌/◌, ◌<◌, List, length, get_or, ap, sym, subst, ◌∙◌, arith}
use Rattle.std.proofs.lemmas.Bool.Decides.{nat_tests}
use Rattle.mem_versions.specs.declared.write.Write.{Write}
use Rattle.mem_versions.specs.declared.history.Part.{Part}
use Rattle.mem_versions.specs.code.History.{HistoryValue, IsPart, AreToOnePage}
use Rattle.mem_versions.proofs.ChangedLaws.{part_same}
use Rattle.mem_versions.proofs.history.History.next_page.Goals as goal

pub returns-in-Some-clause-same : goal.returns-in-Some-clause-same
returns-in-Some-clause-same c =
    let i = c.args.index in
    let writes = c.self.inside.writes.items in
    let parts = c.self.inside.parts.items in
    let n = c.index.result.now.place / 256 in
    let part = c.in-Some.part.now in
    let found : n < length c.deref.result.now = grind (arith, nat_tests, c.in-Some.ensures.lookup.0) in
    let within : n < length parts = omega (arith, found, ap length c.deref.ensures.value) in
    let is : get_or parts n part ≡ part = sym (c.in-Some.ensures.lookup.1 ∙ ap (λ (ps : List Part). get_or ps n part) c.deref.ensures.value) in
    let P : Part → Type 0 = λ q. IsPart writes n q in
    let here : IsPart writes n part = subst P is (c.self.invariant.parted n part within) in
    subst (λ (ws : List Write). AreToOnePage ws i part.end) (ap (λ (h : HistoryValue). h.writes) c.self.view_is)
    (λ k d from below.
    part_same writes n part here k d (omega (arith, c.if-part-index.true, from)) below
    ∙ sym (part_same writes n part here i d (omega (arith, c.if-part-index.true)) (omega (arith, c.if-index-part.true))))
