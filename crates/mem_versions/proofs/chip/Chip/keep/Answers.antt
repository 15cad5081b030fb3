-- There are as many words as at the last cut, and those that no write is to are the same.
use Rattle.std.proofs.Common.{◌≡◌, [], ℕ, List, length, get_or, sym, ap, ◌∙◌, arith}
use Rattle.mem_versions.specs.MemoryAt.{writes_to}
use Rattle.mem_versions.proofs.MemoryLaws.{length-words_after}
use Rattle.mem_versions.proofs.ChangedLaws.{untouched}
use Rattle.mem_versions.proofs.chip.Chip.keep.Goals as goal

pub changed_pages-requires-clause-size : goal.changed_pages-requires-clause-size
changed_pages-requires-clause-size c =
    ap length (c.deref-2.ensures.value ∙ c.self.invariant.present) ∙ length-words_after c.self.inside.base c.self.inside.writes.items

pub changed_pages-requires-clause-unchanged : goal.changed_pages-requires-clause-unchanged
changed_pages-requires-clause-unchanged c place none =
    let writes = c.self.inside.writes.items in
    let nothing : writes_to place writes ≡ [] = sym (ap (writes_to place) c.deref.ensures.value) ∙ sym (c.in_ok-history.ensures.same place) ∙ none in
    sym (ap (λ (ws : List ℕ). get_or ws place 0) (c.deref-2.ensures.value ∙ c.self.invariant.present)
    ∙ untouched place writes c.self.inside.base nothing)

pub invariant_of-result : goal.invariant_of-result
invariant_of-result c =
    let base = c.self.inside.base in
    let writes = c.self.inside.writes.items in
    let same : length c.in_ok-words.words ≡ length base =
    ap length (c.in_ok-words.ensures ∙ c.deref-2.ensures.value ∙ c.self.invariant.present) ∙ length-words_after base writes in
    (omega (arith, same, c.self.invariant.some), omega (arith, same, c.self.invariant.few))
