-- What a choice gives, bit by bit.
use Rattle.std.proofs.Common.{arith, ◌≡◌, ℕ, zero, suc, ◌+◌, ◌*◌, ◌%◌, ◌^◌, ◌<◌, ◌==◌, min, if◌then◌else◌, bit_and, bit_xor, ap, ◌∙◌, refl}
use Rattle.std.proofs.lemmas.Nat.{xor_lt, and_le_r}
use Rattle.std.proofs.lemmas.Nat.Bits.{bit_at-lt, bit_at_and, bit_at_xor, bit_at_ones, bit_at-zero}
use Rattle.std.specs.Int.{bit_at}
use Rattle.blit_words.specs.BlitWords.{minterm_of}
use Rattle.blit_words.specs.Choice.{chosen, everywhere_of, chosen_by_c, IsChoice}
use Rattle.blit_words.proofs.Numbers.{from_digits, bit_of_number, number_lt}

abbrev pick : ℕ → ℕ → ℕ → ℕ
pick by set clear = if by == 1 then set else clear

-- a digit turned over where two differ is the other
turned : (by set clear : ℕ) → by < 2 → set < 2 → clear < 2 → (clear + min by ((set + clear) % 2)) % 2 ≡ pick by set clear
turned zero set clear by_low set_low clear_low = omega arith
turned (suc zero) set clear by_low set_low clear_low = omega arith
turned (suc (suc n)) set clear by_low set_low clear_low = omega arith

pub chosen_is : (by set clear : ℕ) → set < 2 ^ 16 → clear < 2 ^ 16 → bit_xor clear (bit_and by (bit_xor set clear)) ≡ chosen by set clear
unfolding chosen
chosen_is by set clear set_low clear_low =
    let differs = xor_lt 16 set clear set_low clear_low in
    let bound = xor_lt 16 clear (bit_and by (bit_xor set clear)) clear_low (omega (arith, and_le_r by (bit_xor set clear))) in
    from_digits 16 _ _ bound (λ i low.
    rw (bit_at_xor clear (bit_and by (bit_xor set clear)) i, bit_at_and by (bit_xor set clear) i, bit_at_xor set clear i)
    (turned _ _ _ (bit_at-lt by i) (bit_at-lt set i) (bit_at-lt clear i)))

pick_lt : (by set clear : ℕ) → set < 2 → clear < 2 → pick by set clear < 2
pick_lt by set clear set_low clear_low = grind arith

pub chosen-at : (by set clear i : ℕ) → i < 16 → bit_at (chosen by set clear) i ≡ pick (bit_at by i) (bit_at set i) (bit_at clear i)
unfolding chosen
chosen-at by set clear i low =
    bit_of_number 16 (λ (i : ℕ). pick (bit_at by i) (bit_at set i) (bit_at clear i)) i
    (λ j. pick_lt (bit_at by j) (bit_at set j) (bit_at clear j) (bit_at-lt set j) (bit_at-lt clear j)) low

pub everywhere-at : (lf place i : ℕ) → i < 16 → bit_at (everywhere_of lf place) i ≡ bit_at lf place
unfolding everywhere_of
everywhere-at lf place i low = elim (bit_at lf place) as (λ (d : ℕ). d < 2 → bit_at (if d == 1 then 0xffff else 0) i ≡ d) [
  | zero ↦ (λ h. bit_at-zero i)
  | suc zero ↦ (λ h. bit_at_ones 16 i low)
  | suc (suc n) ↦ (λ h. omega arith)
] (bit_at-lt lf place)

everywhere_lt : (lf place : ℕ) → everywhere_of lf place < 2 ^ 16
unfolding everywhere_of
everywhere_lt lf place = grind arith

eight : (l : ℕ → ℕ) (a b c : ℕ) → a < 2 → b < 2 → c < 2
    → pick a (pick b (pick c (l 7) (l 6)) (pick c (l 5) (l 4))) (pick b (pick c (l 3) (l 2)) (pick c (l 1) (l 0))) ≡ l (4 * a + 2 * b + c)
eight l zero zero zero ha hb hc = refl
eight l zero zero (suc zero) ha hb hc = refl
eight l zero (suc zero) zero ha hb hc = refl
eight l zero (suc zero) (suc zero) ha hb hc = refl
eight l (suc zero) zero zero ha hb hc = refl
eight l (suc zero) zero (suc zero) ha hb hc = refl
eight l (suc zero) (suc zero) zero ha hb hc = refl
eight l (suc zero) (suc zero) (suc zero) ha hb hc = refl
eight l (suc (suc a)) b c ha hb hc = omega arith
eight l zero (suc (suc b)) c ha hb hc = omega arith
eight l (suc zero) (suc (suc b)) c ha hb hc = omega arith
eight l zero zero (suc (suc c)) ha hb hc = omega arith
eight l zero (suc zero) (suc (suc c)) ha hb hc = omega arith
eight l (suc zero) zero (suc (suc c)) ha hb hc = omega arith
eight l (suc zero) (suc zero) (suc (suc c)) ha hb hc = omega arith

-- the eight bits of LF, chosen by three words
abbrev pub tree : ℕ → ℕ → ℕ → ℕ → ℕ
tree lf a b c =
    chosen a
    (chosen b (chosen c (everywhere_of lf 7) (everywhere_of lf 6)) (chosen c (everywhere_of lf 5) (everywhere_of lf 4)))
    (chosen b (chosen c (everywhere_of lf 3) (everywhere_of lf 2)) (chosen c (everywhere_of lf 1) (everywhere_of lf 0)))

chosen_lt : (by set clear : ℕ) → chosen by set clear < 2 ^ 16
unfolding chosen
chosen_lt by set clear =
    number_lt 16 (λ (i : ℕ). pick (bit_at by i) (bit_at set i) (bit_at clear i))
    (λ j. pick_lt (bit_at by j) (bit_at set j) (bit_at clear j) (bit_at-lt set j) (bit_at-lt clear j))

pub tree_is : (lf a b c : ℕ) → tree lf a b c ≡ minterm_of lf a b c
unfolding minterm_of
tree_is lf a b c =
    from_digits 16 _ _ (chosen_lt a _ _) (λ i low.
    rw (
      chosen-at _ _ _ i low,
      chosen-at _ _ _ i low,
      chosen-at _ _ _ i low,
      chosen-at _ _ _ i low,
      chosen-at _ _ _ i low,
      chosen-at _ _ _ i low,
      chosen-at _ _ _ i low,
      everywhere-at lf _ i low,
      everywhere-at lf _ i low,
      everywhere-at lf _ i low,
      everywhere-at lf _ i low,
      everywhere-at lf _ i low,
      everywhere-at lf _ i low,
      everywhere-at lf _ i low,
      everywhere-at lf _ i low,
    )
    (eight (bit_at lf) (bit_at a i) (bit_at b i) (bit_at c i) (bit_at-lt a i) (bit_at-lt b i) (bit_at-lt c i)))

by_c_is : (lf place clear turn c : ℕ) → IsChoice lf place clear turn
    → chosen_by_c clear turn c ≡ chosen c (everywhere_of lf (place + 1)) (everywhere_of lf place)
by_c_is lf place clear turn c is =
    ap (λ (n : ℕ). chosen_by_c n turn c) is.first_is
    ∙ ap (λ (n : ℕ). chosen_by_c (everywhere_of lf place) n c) is.turn_is
    ∙ chosen_is c (everywhere_of lf (place + 1)) (everywhere_of lf place) (everywhere_lt lf (place + 1)) (everywhere_lt lf place)

-- what the code makes of the choices
pub joined_is : (lf a b c c0 t0 c2 t2 c4 t4 c6 t6 x0 x2 x4 x6 low high result : ℕ)
    → IsChoice lf 0 c0 t0
    → IsChoice lf 2 c2 t2
    → IsChoice lf 4 c4 t4
    → IsChoice lf 6 c6 t6
    → x0 ≡ chosen_by_c c0 t0 c
    → x2 ≡ chosen_by_c c2 t2 c
    → x4 ≡ chosen_by_c c4 t4 c
    → x6 ≡ chosen_by_c c6 t6 c
    → low ≡ chosen b x2 x0
    → high ≡ chosen b x6 x4
    → result ≡ chosen a high low
    → result ≡ minterm_of lf a b c
joined_is lf a b c c0 t0 c2 t2 c4 t4 c6 t6 x0 x2 x4 x6 low high result i0 i2 i4 i6 x0_is x2_is x4_is x6_is low_is high_is result_is =
    let e0 = x0_is ∙ by_c_is lf 0 c0 t0 c i0 in
    let e2 = x2_is ∙ by_c_is lf 2 c2 t2 c i2 in
    let e4 = x4_is ∙ by_c_is lf 4 c4 t4 c i4 in
    let e6 = x6_is ∙ by_c_is lf 6 c6 t6 c i6 in
    let all = tree_is lf a b c in
    cc
