-- Laws of a cut.
use Rattle.std.proofs.Common.{◌≡◌, ℕ, List, take, drop, ap, ◌∙◌}
use Rattle.mem_versions.specs.declared.write.Write.{Write}
use Rattle.mem_versions.specs.MemoryAt.{words_after, memory_at, writes_below, writes_from}
use Rattle.mem_versions.specs.Chip.{ChipValue, after_cut}

-- a memory is as after a cut once its base has the writes before it, and its list those behind
pub IsCut-made : (chip : ChipValue) (now count last : ℕ) (base : List ℕ) (writes : List Write) → last ≡ now
    → base ≡ words_after chip.base (take count chip.writes) → writes ≡ drop count chip.writes
    → take count chip.writes ≡ writes_below now chip.writes → drop count chip.writes ≡ writes_from now chip.writes
    → record { last = last; base = base; writes = writes; words = chip.words; newest = now; reads = chip.reads } ≡ after_cut chip now
IsCut-made chip now count last base writes at made left below from =
    let cut : ℕ → List ℕ → List Write → ChipValue =
    λ l b ws. record { last = l; base = b; writes = ws; words = chip.words; newest = now; reads = chip.reads } in
    ap (λ (l : ℕ). cut l base writes) at
    ∙ ap (λ (b : List ℕ). cut now b writes) (made ∙ ap (words_after chip.base) below)
    ∙ ap (cut now (memory_at now chip.base chip.writes)) (left ∙ from)
