-- The memory has as many words as its size says.
use Rattle.std.proofs.Common.{length, ap, ◌∙◌}
use Rattle.mem_versions.specs.Chip.{ChipValue}
use Rattle.mem_versions.proofs.WordsLaws.{length-sized}
use Rattle.file_tests.proofs.memory_views.made.Goals as goal

pub returns-clause-size : goal.returns-clause-size
returns-clause-size c =
    ap (λ (v : ChipValue). length v.words) c.in_ok-chip.ensures ∙ length-sized c.args.bytes c.args.image.now c.requires.size c.requires.most
