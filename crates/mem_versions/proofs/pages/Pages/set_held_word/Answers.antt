-- A word written in its group is written at its place.
use Rattle.std.proofs.Common.{◌≡◌, ℕ, ◌/◌, ◌%◌, ◌<◌, List, length, ap, ◌∙◌, arith}
use Rattle.std.proofs.Math.ListN.{set}
use Rattle.std.specs.Arc.{arc_value}
use Rattle.std.proofs.lemmas.Result.{on_ok_weaker}
use Rattle.mem_versions.proofs.PagesLaws.{place-within-groups, joined-set, joined-same, on_err_weaker}
use Rattle.mem_versions.proofs.pages.Pages.set_held_word.Goals as goal

pub returns-clause-ok : goal.returns-clause-ok
returns-clause-ok c =
    let place = c.args.place in
    let groups = c.self.inside.groups.items in
    let within : place / 8192 < length groups = place-within-groups arc_value groups c.args.self.now place c.self.invariant.1 c.self.view_is c.requires in
    let small : place % 8192 < 8192 = omega arith in
    let d = c.index_mut.result.now in
    on_ok_weaker c.write_word.result
    (λ made.
    joined-set 8192 arc_value groups (place / 8192) place (place % 8192) c.args.word c.write_word.new.group d c.self.invariant.1 within small (omega arith)
    (made ∙ ap (λ p. set (arc_value p) (place % 8192) c.args.word) c.index_mut.ensures.value)
    ∙ ap (λ (words : List ℕ). set words place c.args.word) c.self.view_is)
    c.write_word.ensures.ok

pub returns-clause-refused : goal.returns-clause-refused
returns-clause-refused c =
    let place = c.args.place in
    let groups = c.self.inside.groups.items in
    let within : place / 8192 < length groups = place-within-groups arc_value groups c.args.self.now place c.self.invariant.1 c.self.view_is c.requires in
    on_err_weaker c.write_word.result
    (λ same. joined-same arc_value groups (place / 8192) c.write_word.new.group c.index_mut.result.now within
    (same ∙ ap arc_value c.index_mut.ensures.value) ∙ c.self.view_is)
    c.write_word.ensures.refused

pub index_mut-requires : goal.index_mut-requires
index_mut-requires c =
    omega (arith, place-within-groups arc_value c.self.inside.groups.items c.args.self.now c.args.place c.self.invariant.1 c.self.view_is c.requires)

pub write_word-requires : goal.write_word-requires
write_word-requires c =
    let place = c.args.place in
    let groups = c.self.inside.groups.items in
    let within : place / 8192 < length groups = place-within-groups arc_value groups c.args.self.now place c.self.invariant.1 c.self.view_is c.requires in
    let size : length (arc_value c.index_mut.result.now) ≡ 8192 =
    ap (λ p. length (arc_value p)) c.index_mut.ensures.value ∙ c.self.invariant.1 (place / 8192) c.index_mut.result.now within in
    omega arith
