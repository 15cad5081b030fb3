-- Shared groups have the same words.
use Rattle.std.proofs.Common.{◌≡◌, ◌∙◌, arith}
use Rattle.std.specs.Arc.{arc_value}
use Rattle.std.proofs.lemmas.List.Elements.{length_all_zip}
use Rattle.mem_versions.proofs.PagesLaws.{joined-shared, ArePages-shared}
use Rattle.mem_versions.proofs.pages.Pages.share.Goals as goal

pub invariant_of-result : goal.invariant_of-result
invariant_of-result c = (
  omega (
    arith,
    length_all_zip (λ p q. arc_value q ≡ arc_value p) c.self.inside.groups.items c.in_ok-groups.groups.items c.in_ok-groups.ensures.cases.0,
    c.self.invariant.0,
  ),
  ArePages-shared 8192 arc_value c.self.inside.groups.items c.in_ok-groups.groups.items c.in_ok-groups.ensures.cases.0 c.self.invariant.1,
)

pub returns : goal.returns
returns c =
    joined-shared arc_value c.self.inside.groups.items c.in_ok-groups.groups.items c.in_ok-groups.ensures.cases.0 ∙ c.self.view_is
