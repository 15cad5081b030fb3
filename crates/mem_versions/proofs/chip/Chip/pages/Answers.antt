-- There are as many words as at the last cut.
use Rattle.std.proofs.Common.{◌≡◌, length, ap, ◌∙◌, arith}
use Rattle.mem_versions.specs.Chip.{ChipValue}
use Rattle.mem_versions.proofs.MemoryLaws.{length-words_after}
use Rattle.mem_versions.proofs.chip.Chip.pages.Goals as goal

pub returns-clause-size : goal.returns-clause-size
returns-clause-size c =
    let words : length c.self.inside.words.items ≡ length c.self.inside.base =
    ap length c.self.invariant.present ∙ length-words_after c.self.inside.base c.self.inside.writes.items in
    omega (arith, words, c.count.ensures.size, ap (λ (v : ChipValue). length v.words) c.self.view_is)

pub returns-clause-some : goal.returns-clause-some
returns-clause-some c =
    omega (arith, c.self.invariant.some, c.count.ensures.size)

pub returns-clause-few : goal.returns-clause-few
returns-clause-few c =
    omega (arith, c.self.invariant.few, c.count.ensures.size)
