-- The levels rise with the bits, so that the greatest level of a word follows from its size: computed over all words of 14
-- bits.
use Rattle.std.proofs.Common.{◌≡◌, ℕ, nat_lt, ◌<◌, if◌then◌else◌, List, get_or, map, refl, ap, sym, ◌∙◌, arith, bit_and}
use Rattle.std.specs.List.{range_with_len}
use Rattle.std.proofs.lemmas.List.FromFn.{get_or-map-range_with_len}
use Rattle.std.proofs.lemmas.Nat.{and_assoc, and_le_r}
use Rattle.irq_cia.specs.Interrupts.{greatest_level, rows, level_in}

abbrev pub level_by_size : ℕ → ℕ
level_by_size n =
    if nat_lt n 1 then 0
    else (if nat_lt n 8 then 1
    else (if nat_lt n 16 then 2
    else (if nat_lt n 128 then 3
    else (if nat_lt n 2048 then 4
    else (if nat_lt n 8192 then 5 else 6)))))

abbrev pub at_all : (ℕ → ℕ) → List ℕ
at_all f = map f (range_with_len 0 16384)

pub levels_agree : at_all (greatest_level rows) ≡ at_all level_by_size
levels_agree = refl

pub from_all : (f : ℕ → ℕ) (n : ℕ) → n < 16384 → get_or (at_all f) n 0 ≡ f n
from_all f n below = get_or-map-range_with_len f 0 16384 n n 0 below (omega arith)

pub small_law : (n : ℕ) → n < 16384 → greatest_level rows n ≡ level_by_size n
small_law n below =
    sym (from_all (greatest_level rows) n below) ∙ ap (λ l. get_or l n 0) levels_agree ∙ from_all level_by_size n below

-- the rows look at bits 13 to 0 alone
pub greatest_level-and : (word : ℕ) → greatest_level rows (bit_and word 16383) ≡ greatest_level rows word
greatest_level-and word = simp and_assoc

pub level_law : (word : ℕ) → level_in word ≡ level_by_size (bit_and word 16383)
unfolding level_in
level_law word =
    let below : bit_and word 16383 < 16384 = omega (arith, and_le_r word 16383) in
    sym (greatest_level-and word) ∙ small_law (bit_and word 16383) below
