-- The word is that of the last write before the clock, or the one at the cut before; above the memory there is none.
use Rattle.std.proofs.Common.{◌≡◌, ◌/◌, ◌<◌, Some, None, slice_get, length, get_or, ap, sym, ◌∙◌, arith}
use Rattle.std.proofs.lemmas.Option.{slice_get_within, get_or_from_slice_get}
use Rattle.mem_versions.specs.MemoryAt.{memory_at, page_writes}
use Rattle.mem_versions.specs.MemView.{ViewValue}
use Rattle.mem_versions.specs.code.History.{word_before}
use Rattle.mem_versions.proofs.MemoryLaws.{get_or-memory_at, memory_at-above}
use Rattle.mem_versions.proofs.PagesLaws.{ended}
use Rattle.mem_versions.proofs.view.MemView.at_counted.Goals as goal

pub word_before-requires : goal.word_before-requires
word_before-requires g c =
    let place = c.args.a.value / 2 in
    let base = c.self.inside.base in
    let within : place < length base = slice_get_within base place c.in-Some.word (sym c.get.ensures ∙ c.in-Some.is) in
    omega (arith, within, c.self.invariant)

pub returns-in-Some-clause-word : goal.returns-in-Some-clause-word
returns-in-Some-clause-word g c =
    let place = c.args.a.value / 2 in
    let clock = c.args.c.0 in
    let base = c.self.inside.base in
    let writes = c.self.inside.history.writes in
    let found : slice_get base place ≡ Some c.in-Some.word = sym c.get.ensures ∙ c.in-Some.is in
    let within : place < length base = slice_get_within base place c.in-Some.word found in
    c.word_before.ensures.word
    ∙ ap (word_before place clock writes) (sym (get_or_from_slice_get base place c.in-Some.word 0 found))
    ∙ sym (get_or-memory_at clock place writes base within)
    ∙ ap (λ (v : ViewValue). get_or (memory_at clock v.base v.writes) place 0) c.self.view_is

pub returns-in-Some-clause-cost : goal.returns-in-Some-clause-cost
returns-in-Some-clause-cost g c =
    let place = c.args.a.value / 2 in
    omega (arith, c.word_before.ensures.cost, ap (λ (v : ViewValue). page_writes (place / 256) v.writes) c.self.view_is)

pub returns-in-None-clause-word : goal.returns-in-None-clause-word
returns-in-None-clause-word g c =
    let place = c.args.a.value / 2 in
    let clock = c.args.c.0 in
    let base = c.self.inside.base in
    let missed : slice_get base place ≡ None = sym c.get.ensures ∙ c.in-None.is in
    sym (ap (λ (v : ViewValue). get_or (memory_at clock v.base v.writes) place 0) (sym c.self.view_is)
    ∙ memory_at-above clock place c.self.inside.history.writes base (ended base place missed))
