-- The words of the page stand from its first place on.
use Rattle.std.proofs.Common.{ℕ, ◌*◌, ◌<◌, List, length, take, drop, ap, ◌∙◌, arith, refl}
use Rattle.std.specs.Arc.{arc_value}
use Rattle.mem_versions.proofs.PagesLaws.{joined-page, page-within}
use Rattle.mem_versions.proofs.group.Group.page.Goals as goal

pub returns-clause-words : goal.returns-clause-words
returns-clause-words c =
    let number = c.args.number in
    let pages = c.self.inside.list.items in
    let within : number < length pages = page-within 256 arc_value pages c.args.self.now number c.self.invariant.1 c.self.view_is c.requires (omega arith) in
    c.as_slice.ensures ∙ c.deref.ensures ∙ ap arc_value c.index.ensures
    ∙ joined-page 256 arc_value pages number (256 * number) c.index.result.now c.self.invariant.1 within refl
    ∙ ap (λ (words : List ℕ). take 256 (drop (256 * number) words)) c.self.view_is

pub index-requires : goal.index-requires
index-requires c =
    omega (arith, page-within 256 arc_value c.self.inside.list.items c.args.self.now c.args.number c.self.invariant.1 c.self.view_is c.requires (omega arith))

pub returns-clause-size : goal.returns-clause-size
returns-clause-size c =
    let number = c.args.number in
    let pages = c.self.inside.list.items in
    let within : number < length pages = page-within 256 arc_value pages c.args.self.now number c.self.invariant.1 c.self.view_is c.requires (omega arith) in
    ap length (c.as_slice.ensures ∙ c.deref.ensures ∙ ap arc_value c.index.ensures) ∙ c.self.invariant.1 number c.index.result.now within
