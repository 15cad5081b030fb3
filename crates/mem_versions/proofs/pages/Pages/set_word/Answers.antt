-- Behind the last page there is no word to set.
use Rattle.std.proofs.Common.{◌≤◌, length, sym, ap, arith}
use Rattle.std.proofs.lemmas.List.{set_past}
use Rattle.std.specs.Arc.{arc_value}
use Rattle.mem_versions.proofs.PagesLaws.{length-joined}
use Rattle.mem_versions.proofs.pages.Pages.set_word.Goals as goal

pub set_held_word-requires : goal.set_held_word-requires
set_held_word-requires c =
    omega (arith, ap length c.self.view_is, length-joined 8192 arc_value c.self.inside.groups.items c.self.invariant.1)

pub returns-else-place-len-clause-ok : goal.returns-else-place-len-clause-ok
returns-else-place-len-clause-ok c =
    let past : length c.args.self.now ≤ c.args.place =
    omega (arith, ap length c.self.view_is, length-joined 8192 arc_value c.self.inside.groups.items c.self.invariant.1) in
    sym (set_past c.args.self.now c.args.place c.args.word past)
