-- The words of the page stand from its first place on.
use Rattle.std.proofs.Common.{ℕ, ◌*◌, ◌/◌, ◌%◌, ◌≡◌, ◌<◌, List, length, take, drop, ap, ◌∙◌, arith}
use Rattle.std.specs.Arc.{arc_value}
use Rattle.mem_versions.proofs.PagesLaws.{length-joined, page-of-group}
use Rattle.mem_versions.proofs.pages.Pages.page.Goals as goal

pub index-requires : goal.index-requires
index-requires c =
    omega (arith, c.requires, ap length c.self.view_is, length-joined 8192 arc_value c.self.inside.groups.items c.self.invariant.1)

pub page-requires : goal.page-requires
page-requires c =
    let number = c.args.number in
    let groups = c.self.inside.groups.items in
    let within : number / 32 < length groups =
    omega (arith, c.requires, ap length c.self.view_is, length-joined 8192 arc_value groups c.self.invariant.1) in
    let size : length c.deref.result.now ≡ 8192 =
    ap length (c.deref.ensures ∙ ap arc_value c.index.ensures) ∙ c.self.invariant.1 (number / 32) c.index.result.now within in
    omega arith

pub returns-clause-words : goal.returns-clause-words
returns-clause-words c =
    let number = c.args.number in
    let groups = c.self.inside.groups.items in
    let within : number / 32 < length groups =
    omega (arith, c.requires, ap length c.self.view_is, length-joined 8192 arc_value groups c.self.invariant.1) in
    c.page.ensures.words
    ∙ ap (λ (words : List ℕ). take 256 (drop (256 * (number % 32)) words)) (c.deref.ensures ∙ ap arc_value c.index.ensures)
    ∙ page-of-group arc_value groups c.args.self.now number c.index.result.now c.self.invariant.1 c.self.view_is within
