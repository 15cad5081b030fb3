-- A page of a group is a page of the memory.
use Rattle.std.proofs.Common.{◌≡◌, ◌/◌, ◌%◌, ◌<◌, ℕ, List, length, subst, ap, ◌∙◌, arith}
use Rattle.std.proofs.Math.ListN.{set}
use Rattle.std.specs.Arc.{arc_value}
use Rattle.std.specs.List.{flat_map}
use Rattle.std.proofs.lemmas.Result.{on_ok_weaker}
use Rattle.mem_versions.specs.code.Pages.{HasPage}
use Rattle.mem_versions.proofs.PagesLaws.{length-joined, joined-same, on_err_weaker}
use Rattle.mem_versions.proofs.ChangedLaws.{HasPage-memory}
use Rattle.mem_versions.proofs.pages.Pages.set_page.Goals as goal

pub index_mut-requires : goal.index_mut-requires
index_mut-requires c =
    omega (arith, c.requires.within, ap length c.self.view_is, length-joined 8192 arc_value c.self.inside.groups.items c.self.invariant.1)

pub replace_page-requires-clause-within : goal.replace_page-requires-clause-within
replace_page-requires-clause-within c =
    let n = c.args.number in
    let groups = c.self.inside.groups.items in
    let within : n / 32 < length groups =
    omega (arith, c.requires.within, ap length c.self.view_is, length-joined 8192 arc_value groups c.self.invariant.1) in
    let size : length (arc_value c.index_mut.result.now) ≡ 8192 =
    ap (λ p. length (arc_value p)) c.index_mut.ensures.value ∙ c.self.invariant.1 (n / 32) c.index_mut.result.now within in
    omega arith

pub returns-clause-ok : goal.returns-clause-ok
returns-clause-ok c =
    let n = c.args.number in
    let words = c.args.words.now in
    let groups = c.self.inside.groups.items in
    let group = c.replace_page.new.group in
    let d = c.index_mut.result.now in
    let within : n / 32 < length groups =
    omega (arith, c.requires.within, ap length c.self.view_is, length-joined 8192 arc_value groups c.self.invariant.1) in
    let P : List ℕ → Type 0 = λ old. HasPage old n words (flat_map arc_value (set groups (n / 32) group)) in
    let Q : List ℕ → Type 0 = λ old. HasPage old (n % 32) words (arc_value group) in
    on_ok_weaker c.replace_page.result
    (λ made. subst P c.self.view_is
    (HasPage-memory arc_value groups n group d words c.self.invariant.1 within (subst Q (ap arc_value c.index_mut.ensures.value) made)))
    c.replace_page.ensures.ok

pub returns-clause-refused : goal.returns-clause-refused
returns-clause-refused c =
    let n = c.args.number in
    let groups = c.self.inside.groups.items in
    let within : n / 32 < length groups =
    omega (arith, c.requires.within, ap length c.self.view_is, length-joined 8192 arc_value groups c.self.invariant.1) in
    on_err_weaker c.replace_page.result
    (λ same. joined-same arc_value groups (n / 32) c.replace_page.new.group c.index_mut.result.now within
    (same ∙ ap arc_value c.index_mut.ensures.value) ∙ c.self.view_is)
    c.replace_page.ensures.refused
