-- Where no write is behind the clock, the word behind the memory is that at the clock.
use Rattle.std.proofs.Common.{◌/◌, ℕ, List, get_or, ap, ◌∙◌, rules}
use Rattle.mem_versions.proofs.ReplayLaws.{late_word}
use Rattle.mem_versions.proofs.replay.MemReplay.word_behind.Goals as goal

pub returns-else-is_written_from : goal.returns-else-is_written_from
returns-else-is_written_from c =
    let place = c.args.a.value / 2 in
    let view = c.args.self.now in
    c.word_of.ensures
    ∙ ap (λ (ws : List ℕ). get_or ws place 0) c.requires.behind
    ∙ late_word c.args.c.0 view.to place view.writes view.base c.requires.covers.1 (search rules)
