-- The word is the one of its group, and none stands behind the last.
use Rattle.std.proofs.Common.{◌≡◌, ◌/◌, ◌%◌, ◌<◌, ◌≤◌, ◌∙◌, Some, Global, List, ℕ, length, get_or, ap, sym, arith}
use Rattle.std.proofs.lemmas.Bool.Decides.{nat_tests}
use Rattle.std.proofs.lemmas.Option.{slice_get-get_or, slice_get_past}
use Rattle.std.specs.Arc.{arc_value}
use Rattle.std.specs.declared.sync.Arc.{Arc}
use Rattle.mem_versions.proofs.PagesLaws.{read-word, length-joined}
use Rattle.mem_versions.proofs.pages.Pages.get.Goals as goal

pub word-requires : goal.word-requires
word-requires c =
    let place = c.args.place in
    let groups = c.self.inside.groups.items in
    let group = c.in-Some.group.now in
    let found : place / 8192 < length c.deref.result.now = grind (arith, nat_tests, c.in-Some.ensures.lookup.0) in
    let within : place / 8192 < length groups = omega (arith, found, ap length c.deref.ensures.value) in
    let is : group ≡ get_or groups (place / 8192) group =
    c.in-Some.ensures.lookup.1 ∙ ap (λ (ps : List (Arc (List ℕ) Global)). get_or ps (place / 8192) group) c.deref.ensures.value in
    let size : length c.deref-in-Some.result.now ≡ 8192 =
    ap length (c.deref-in-Some.ensures ∙ ap arc_value is) ∙ c.self.invariant.1 (place / 8192) group within in
    omega arith

pub returns-in-Some : goal.returns-in-Some
returns-in-Some c =
    let place = c.args.place in
    let groups = c.self.inside.groups.items in
    let group = c.in-Some.group.now in
    let found : place / 8192 < length c.deref.result.now = grind (arith, nat_tests, c.in-Some.ensures.lookup.0) in
    let within : place / 8192 < length groups = omega (arith, found, ap length c.deref.ensures.value) in
    let is : group ≡ get_or groups (place / 8192) group =
    c.in-Some.ensures.lookup.1 ∙ ap (λ (ps : List (Arc (List ℕ) Global)). get_or ps (place / 8192) group) c.deref.ensures.value in
    let inside : place < length c.args.self.now = omega (arith, within, ap length c.self.view_is, length-joined 8192 arc_value groups c.self.invariant.1) in
    ap (λ (w : ℕ). Some w)
    (c.word.ensures
    ∙ ap (λ (words : List ℕ). get_or words (place % 8192) 0) c.deref-in-Some.ensures
    ∙ read-word 8192 arc_value groups c.args.self.now (place / 8192) place (place % 8192) group c.self.invariant.1 c.self.view_is within (omega arith)
    (omega arith) is)
    ∙ sym (slice_get-get_or c.args.self.now place 0 inside)

pub returns-in-None : goal.returns-in-None
returns-in-None c =
    let place = c.args.place in
    let groups = c.self.inside.groups.items in
    let missed : length c.deref.result.now ≤ place / 8192 = grind (arith, nat_tests, c.in-None.ensures.lookup.0) in
    let above : length groups ≤ place / 8192 = omega (arith, missed, ap length c.deref.ensures.value) in
    let past : length c.args.self.now ≤ place = omega (arith, above, ap length c.self.view_is, length-joined 8192 arc_value groups c.self.invariant.1) in
    sym (slice_get_past c.args.self.now place past)
