-- Bits that are gathered.
use Rattle.std.proofs.Common.{◌≡◌, ℕ, max, bit_or, sym, ◌∙◌, ap, arith}
use Rattle.std.proofs.lemmas.Nat.Bits.{bit_at_or, bit_at-zero, same_from_bits}
use Rattle.std.specs.Int.{bit_at}

three : (a b c : ℕ) → max (max a b) c ≡ max a (max b c)
three a b c = omega arith

pub or_assoc : (a b c : ℕ) → bit_or (bit_or a b) c ≡ bit_or a (bit_or b c)
or_assoc a b c = same_from_bits _ _ (λ i.
    bit_at_or (bit_or a b) c i
    ∙ ap (λ (n : ℕ). max n (bit_at c i)) (bit_at_or a b i)
    ∙ three (bit_at a i) (bit_at b i) (bit_at c i)
    ∙ ap (max (bit_at a i)) (sym (bit_at_or b c i))
    ∙ sym (bit_at_or a (bit_or b c) i))

none_more : (a : ℕ) → max a 0 ≡ a
none_more a = omega arith

pub or_none : (a : ℕ) → bit_or a 0 ≡ a
or_none a = same_from_bits _ _ (λ i. bit_at_or a 0 i ∙ ap (max (bit_at a i)) (bit_at-zero i) ∙ none_more (bit_at a i))
