-- The page's words are the new ones, and those of the other pages stay.
use Rattle.std.proofs.Common.{◌≡◌, ◌<◌, ℕ, List, length, subst, ◌∙◌, arith}
use Rattle.std.proofs.Math.ListN.{set}
use Rattle.std.specs.Arc.{arc_value}
use Rattle.std.specs.List.{flat_map}
use Rattle.std.proofs.lemmas.List.{take_all}
use Rattle.mem_versions.specs.code.Pages.{HasPage}
use Rattle.mem_versions.proofs.PagesLaws.{page-within}
use Rattle.mem_versions.proofs.ChangedLaws.{HasPage-group}
use Rattle.mem_versions.proofs.group.Group.set_page.Goals as goal

pub index_mut-requires : goal.index_mut-requires
index_mut-requires c =
    omega (
      arith,
      page-within 256 arc_value c.self.inside.list.items c.args.self.now c.args.number c.self.invariant.1 c.self.view_is
          c.requires.within (omega arith),
    )

pub returns-clause-ok : goal.returns-clause-ok
returns-clause-ok c =
    let n = c.args.number in
    let words = c.args.words.now in
    let pages = c.self.inside.list.items in
    let page = c.in_ok-page.page in
    let within : n < length pages = page-within 256 arc_value pages c.args.self.now n c.self.invariant.1 c.self.view_is c.requires.within (omega arith) in
    let value : arc_value page ≡ words = c.in_ok-page.ensures.ok ∙ c.page_of.ensures.words ∙ take_all 256 words (omega (arith, c.requires.size)) in
    let P : List ℕ → Type 0 = λ old. HasPage old n words (flat_map arc_value (set pages n page)) in
    subst P c.self.view_is (HasPage-group arc_value pages n page words c.self.invariant.1 within value c.requires.size)
