-- A list that is filled place by place.
use Rattle.std.proofs.Common.{◌≡◌, ◌<◌, ◌+◌, ℕ, List, length, slice_index, slice_set, inl, inr, arith, subst, ap, sym, ◌∙◌}
use Rattle.std.proofs.lemmas.Bool.{cases_eq}
use Rattle.std.proofs.lemmas.List.{get_or-set_other, get_or-set_same}

pub filled_more : (f : ℕ → ℕ) (filled : List ℕ) (i value : ℕ) → ((j : ℕ) → j < i → slice_index filled j ≡ f j) → value ≡ f i → i < length filled
    → (j : ℕ) → j < i + 1 → slice_index (slice_set filled i value) j ≡ f j
filled_more f filled i value before here room j below =
    elim (cases_eq j i) [
      | inl e ↦ (let s : i ≡ j = sym e in
          subst (λ k. slice_index (slice_set filled i value) k ≡ f k) s (get_or-set_same filled i value 0 room ∙ here))
      | inr other ↦ (let o : j ≡ i → ⊥ = other in
          get_or-set_other filled i j value 0 o ∙ before j (omega arith))
    ]
