-- The word is the one of its page.
use Rattle.std.proofs.Common.{◌/◌, ◌%◌, ◌<◌, ◌∙◌, ℕ, List, length, get_or, ap, arith}
use Rattle.std.specs.Arc.{arc_value}
use Rattle.mem_versions.proofs.PagesLaws.{place-within-pages, read-word}
use Rattle.mem_versions.proofs.group.Group.word.Goals as goal

pub index-requires : goal.index-requires
index-requires c =
    omega (arith, place-within-pages arc_value c.self.inside.list.items c.args.self.now c.args.place c.self.invariant.1 c.self.view_is c.requires)

pub returns : goal.returns
returns c =
    let place = c.args.place in
    let pages = c.self.inside.list.items in
    let within : place / 256 < length pages = place-within-pages arc_value pages c.args.self.now place c.self.invariant.1 c.self.view_is c.requires in
    ap (λ (words : List ℕ). get_or words (place % 256) 0) c.deref.ensures
    ∙ read-word 256 arc_value pages c.args.self.now (place / 256) place (place % 256) c.index.result.now c.self.invariant.1 c.self.view_is within (omega arith)
    (omega arith) c.index.ensures
