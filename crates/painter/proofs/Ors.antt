-- Bits that are gathered.
use Rattle.std.proofs.Common.{◌≡◌, ℕ, ◌+◌, ◌*◌, ◌/◌, ◌%◌, max, min, bit_or, bit_and, sym, ◌∙◌, ap, arith}
use Rattle.std.proofs.lemmas.Nat.{or_block}
use Rattle.std.proofs.lemmas.Nat.Bits.{bit_at_or, bit_at_and, bit_at-zero, same_from_bits}
use Rattle.std.specs.Int.{bit_at}

three : (a b c : ℕ) → max (max a b) c ≡ max a (max b c)
three a b c = omega arith

pub or_assoc : (a b c : ℕ) → bit_or (bit_or a b) c ≡ bit_or a (bit_or b c)
or_assoc a b c = same_from_bits _ _ (λ i.
    bit_at_or (bit_or a b) c i
    ∙ ap (λ (n : ℕ). max n (bit_at c i)) (bit_at_or a b i)
    ∙ three (bit_at a i) (bit_at b i) (bit_at c i)
    ∙ ap (max (bit_at a i)) (sym (bit_at_or b c i))
    ∙ sym (bit_at_or a (bit_or b c) i))

none_more : (a : ℕ) → max a 0 ≡ a
none_more a = omega arith

pub or_none : (a : ℕ) → bit_or a 0 ≡ a
or_none a = same_from_bits _ _ (λ i. bit_at_or a 0 i ∙ ap (max (bit_at a i)) (bit_at-zero i) ∙ none_more (bit_at a i))

pub none_or : (a : ℕ) → bit_or 0 a ≡ a
none_or a = same_from_bits _ _ (λ i. bit_at_or 0 a i ∙ ap (λ (n : ℕ). max n (bit_at a i)) (bit_at-zero i) ∙ more_none (bit_at a i))
  where
    more_none : (n : ℕ) → max 0 n ≡ n
    more_none n = omega arith

twice_max : (a : ℕ) → max a a ≡ a
twice_max a = omega arith

pub or_twice : (a : ℕ) → bit_or a a ≡ a
or_twice a = same_from_bits _ _ (λ i. bit_at_or a a i ∙ twice_max (bit_at a i))

-- a bit that is there already
pub or_lowest : (a : ℕ) → a % 2 ≡ 1 → bit_or a 1 ≡ a
or_lowest a is =
    let split : a ≡ a / 2 * 2 + 1 = omega (arith, is) in
    ap (λ (n : ℕ). bit_or n 1) split
    ∙ or_block 1 (a / 2) 0 1 1 (omega arith) (omega arith)
    ∙ ap (λ (n : ℕ). n * 2 + 1) (or_none (a / 2))
    ∙ sym split

-- bits that are there already, and bits among these
among : (a r x : ℕ) → min a r ≡ r → max r x ≡ r → a ≡ max a x
among a r x held more = omega (arith, held, more)

pub or_reached : (a r x : ℕ) → bit_and a r ≡ r → bit_or r x ≡ r → a ≡ bit_or a x
or_reached a r x held more = same_from_bits _ _ (λ i.
    among (bit_at a i) (bit_at r i) (bit_at x i)
    (sym (bit_at_and a r i) ∙ ap (λ (n : ℕ). bit_at n i) held)
    (sym (bit_at_or r x i) ∙ ap (λ (n : ℕ). bit_at n i) more)
    ∙ sym (bit_at_or a x i))

pub or_both : (r x y : ℕ) → bit_or r x ≡ r → bit_or r y ≡ r → bit_or r (bit_or x y) ≡ r
or_both r x y one two = sym (or_assoc r x y) ∙ ap (λ (n : ℕ). bit_or n y) one ∙ two
