-- The word is that of the last write before the clock, or the one at the cut before; above the memory there is none.
use Rattle.std.proofs.Common.{◌≡◌, ◌<◌, Some, None, slice_get, length, get_or, ap, sym, ◌∙◌}
use Rattle.std.proofs.lemmas.Option.{slice_get_within, get_or_from_slice_get}
use Rattle.mem_versions.specs.MemoryAt.{memory_at}
use Rattle.mem_versions.specs.code.Replay.{ReplayedValue}
use Rattle.mem_versions.specs.code.History.{word_before}
use Rattle.mem_versions.proofs.MemoryLaws.{get_or-memory_at, memory_at-above}
use Rattle.mem_versions.proofs.PagesLaws.{ended}
use Rattle.mem_versions.proofs.replayed.Replayed.searched_word.Goals as goal

pub returns-in-Some : goal.returns-in-Some
returns-in-Some c =
    let place = c.args.place in
    let clock = c.args.clock in
    let base = c.self.inside.base in
    let writes = c.self.inside.writes.items in
    let found : slice_get base place ≡ Some c.in-Some.word = sym c.get.ensures ∙ c.in-Some.is in
    let within : place < length base = slice_get_within base place c.in-Some.word found in
    c.word_before.ensures
    ∙ ap (λ (v : ReplayedValue). word_before place clock v.writes c.in-Some.word) (sym c.self.view_is)
    ∙ ap (word_before place clock writes) (sym (get_or_from_slice_get base place c.in-Some.word 0 found))
    ∙ sym (get_or-memory_at clock place writes base within)
    ∙ ap (λ (v : ReplayedValue). get_or (memory_at clock v.base v.writes) place 0) c.self.view_is

pub returns-in-None : goal.returns-in-None
returns-in-None c =
    let place = c.args.place in
    let base = c.self.inside.base in
    let missed : slice_get base place ≡ None = sym c.get.ensures ∙ c.in-None.is in
    sym (ap (λ (v : ReplayedValue). get_or (memory_at c.args.clock v.base v.writes) place 0) (sym c.self.view_is)
    ∙ memory_at-above c.args.clock place c.self.inside.writes.items base (ended base place missed))
