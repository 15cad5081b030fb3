-- The data registers from ask to ask, and words of a blit that later answers leave as they are.
use Rattle.std.proofs.Common.{arith, ◌≡◌, inl, inr, ℕ, zero, suc, ◌+◌, ◌*◌, ◌/◌, ◌%◌, ◌<◌, ◌≤◌, Bool, true, false, if◌then◌else◌}
use Rattle.std.proofs.Common.{nat_eq, nat_lt, List, [], ◌∷◌, ◌++◌, length, Option, Some, None, sym, ap, ◌∙◌, refl, eq-eqb}
use Rattle.std.proofs.lemmas.Bool.{cases_lt}
use Rattle.std.proofs.lemmas.List.{get_or_append_left, get_or_push}
use Rattle.std.proofs.lemmas.Nat.{div-add-mod'}
use Rattle.blit_words.specs.declared.blit.BlitRegs.{BlitRegs}
use Rattle.blit_words.specs.declared.blit.WordAsk.{WordAsk}
use Rattle.blit_words.specs.declared.blit.WordAsk.TheVariants.{A, B, C}
use Rattle.blit_words.specs.BlitWords.{masked_word}
use Rattle.blit_words.specs.Blit.{width_of}
use Rattle.blit_words.specs.AreaBlit.{asks_per_word, word_ask, place_of, is_same, word_at_place, channel_word, data_register, masked_a, previous_a}
use Rattle.blit_words.specs.AreaBlit.{previous_b, joined_word, ones_in_row, result_word, are_zero, is_before, word_held_before, held_word}
use Rattle.blitter_area.proofs.Rows.{AllBefore, is_at, asked_at, place_within}

-- ---- later answers

word_kept_at : (s : BlitRegs) (ws : List ℕ) (w : ℕ) (x : WordAsk) (j : ℕ) (o : Option ℕ) → AllBefore o (asks_per_word s)
    → suc j * asks_per_word s ≤ length ws
    → word_at_place s (ws ++ w ∷ []) x j o ≡ word_at_place s ws x j o
word_kept_at s ws w x j None within whole = refl
word_kept_at s ws w x j (Some q) within whole = get_or_append_left ws (w ∷ []) 0 (j * asks_per_word s + q) (omega arith)

pub word_kept : (s : BlitRegs) (ws : List ℕ) (w : ℕ) (x : WordAsk) (j : ℕ) → suc j * asks_per_word s ≤ length ws
    → channel_word s (ws ++ w ∷ []) x j ≡ channel_word s ws x j
unfolding channel_word
word_kept s ws w x j whole = word_kept_at s ws w x j (place_of s x) (place_within s x) whole

pub masked_kept : (s : BlitRegs) (ws : List ℕ) (w j : ℕ) → suc j * asks_per_word s ≤ length ws → masked_a s (ws ++ w ∷ []) j ≡ masked_a s ws j
unfolding masked_a
masked_kept s ws w j whole =
    ap (λ (n : ℕ). masked_word s.afwm s.alwm (width_of s) (j % width_of s) n) (word_kept s ws w A j whole)

pub previous_a_kept : (s : BlitRegs) (ws : List ℕ) (w j : ℕ) → j * asks_per_word s ≤ length ws → previous_a s (ws ++ w ∷ []) j ≡ previous_a s ws j
unfolding previous_a
previous_a_kept s ws w zero whole = refl
previous_a_kept s ws w (suc j) whole = masked_kept s ws w j whole

pub previous_b_kept : (s : BlitRegs) (ws : List ℕ) (w j : ℕ) → j * asks_per_word s ≤ length ws → previous_b s (ws ++ w ∷ []) j ≡ previous_b s ws j
unfolding previous_b
previous_b_kept s ws w zero whole = refl
previous_b_kept s ws w (suc j) whole = word_kept s ws w B j whole

joined_kept : (s : BlitRegs) (ws : List ℕ) (w j : ℕ) → suc j * asks_per_word s ≤ length ws → joined_word s (ws ++ w ∷ []) j ≡ joined_word s ws j
unfolding joined_word
joined_kept s ws w j whole =
    let before : j * asks_per_word s ≤ length ws = omega arith in
    let a = previous_a_kept s ws w j before in
    let b = previous_b_kept s ws w j before in
    let masked = masked_kept s ws w j whole in
    let own_b = word_kept s ws w B j whole in
    let own_c = word_kept s ws w C j whole in
    cc

pub ones_kept : (s : BlitRegs) (ws : List ℕ) (w r c : ℕ) → (r * width_of s + c) * asks_per_word s ≤ length ws
    → ones_in_row s (ws ++ w ∷ []) r c ≡ ones_in_row s ws r c
unfolding ones_in_row
ones_kept s ws w r zero whole = refl
ones_kept s ws w r (suc c) whole =
    let own = joined_kept s ws w (r * width_of s + c) (omega arith) in
    let others = ones_kept s ws w r c (omega arith) in
    cc

result_kept : (s : BlitRegs) (ws : List ℕ) (w j : ℕ) → suc j * asks_per_word s ≤ length ws → result_word s (ws ++ w ∷ []) j ≡ result_word s ws j
unfolding result_word
result_kept s ws w j whole =
    let split = div-add-mod' j (width_of s) in
    let before : (j / width_of s * width_of s + j % width_of s) * asks_per_word s ≡ j * asks_per_word s = ap (λ (n : ℕ). n * asks_per_word s) split in
    let own = joined_kept s ws w j whole in
    let ones = ones_kept s ws w (j / width_of s) (j % width_of s) (omega arith) in
    cc

pub zero_kept : (s : BlitRegs) (ws : List ℕ) (w j : ℕ) → j * asks_per_word s ≤ length ws → are_zero s (ws ++ w ∷ []) j ≡ are_zero s ws j
unfolding are_zero
zero_kept s ws w zero whole = refl
zero_kept s ws w (suc j) whole =
    let own = result_kept s ws w j whole in
    let others = zero_kept s ws w j (omega arith) in
    cc

-- ---- the data registers

abbrev earlier_at : BlitRegs → List ℕ → WordAsk → ℕ → Option ℕ → ℕ
earlier_at s ws x zero o = data_register s x
earlier_at s ws x (suc j) o = word_at_place s ws x j o

abbrev held_at : BlitRegs → List ℕ → WordAsk → ℕ → ℕ → Option ℕ → ℕ
held_at s ws x j p o = if is_before o p then word_at_place s ws x j o else earlier_at s ws x j o

held_is : (s : BlitRegs) (ws : List ℕ) (x : WordAsk) (j p : ℕ) → held_word s ws x j p ≡ held_at s ws x j p (place_of s x)
unfolding held_word word_held_before channel_word
held_is s ws x zero p = refl
held_is s ws x (suc j) p = refl

earlier_kept : (s : BlitRegs) (ws : List ℕ) (w : ℕ) (x : WordAsk) (j : ℕ) (o : Option ℕ) → AllBefore o (asks_per_word s)
    → j * asks_per_word s ≤ length ws
    → earlier_at s (ws ++ w ∷ []) x j o ≡ earlier_at s ws x j o
earlier_kept s ws w x zero o within whole = refl
earlier_kept s ws w x (suc j) o within whole = word_kept_at s ws w x j o within whole

pub lt_true : (a b : ℕ) → a < b → nat_lt a b ≡ true
lt_true a b h = grind arith

pub lt_false : (a b : ℕ) → b ≤ a → nat_lt a b ≡ false
lt_false a b h = grind arith

eq_false : (a b : ℕ) → a < b → nat_eq a b ≡ false
eq_false a b h = grind arith

eq_false' : (a b : ℕ) → b < a → nat_eq a b ≡ false
eq_false' a b h = grind arith

next_at : (s : BlitRegs) (ws : List ℕ) (w : ℕ) (x : WordAsk) (j p : ℕ) (o : Option ℕ) → AllBefore o (asks_per_word s)
    → length ws ≡ j * asks_per_word s + p
    → (if is_at p o then w else held_at s ws x j p o) ≡ held_at s (ws ++ w ∷ []) x j (p + 1) o
next_at s ws w x j p None within count = sym (earlier_kept s ws w x j None tt (omega arith))
next_at s ws w x j p (Some q) within count = elim (cases_lt q p) [
  | inl below ↦
      let not_now = eq_false q p below in
      let was = lt_true q p below in
      let is = lt_true q (p + 1) (omega arith) in
      let kept = get_or_append_left ws (w ∷ []) 0 (j * asks_per_word s + q) (omega arith) in
      cc
  | inr above ↦ elim (cases_lt p q) [
    | inl later ↦
        let not_now = eq_false' q p later in
        let was = lt_false q p above in
        let is = lt_false q (p + 1) (omega arith) in
        let kept = earlier_kept s ws w x j (Some q) within (omega arith) in
        cc
    | inr same ↦
        let e : q ≡ p = omega arith in
        let now = eq-eqb q p e in
        let is = lt_true q (p + 1) (omega arith) in
        let place : length ws ≡ j * asks_per_word s + q = omega arith in
        let new = get_or_push ws w 0 (j * asks_per_word s + q) place in
        cc
  ]
]

-- the answer to an ask goes to the data register of its channel
pub held_next : (s : BlitRegs) (ws : List ℕ) (w : ℕ) (x : WordAsk) (j p : ℕ) → p < asks_per_word s
    → length ws ≡ j * asks_per_word s + p
    → (if is_same x (word_ask s p) then w else held_word s ws x j p) ≡ held_word s (ws ++ w ∷ []) x j (p + 1)
held_next s ws w x j p low count =
    let asked = asked_at s x p low in
    let old = held_is s ws x j p in
    let new = held_is s (ws ++ w ∷ []) x j (p + 1) in
    let step = next_at s ws w x j p (place_of s x) (place_within s x) count in
    cc

read_at : (s : BlitRegs) (ws : List ℕ) (x : WordAsk) (j p : ℕ) (o : Option ℕ) → AllBefore o p → held_at s ws x j p o ≡ word_at_place s ws x j o
read_at s ws x zero p None before = refl
read_at s ws x (suc j) p None before = refl
read_at s ws x j p (Some q) before =
    ap (λ (b : Bool). if b then word_at_place s ws x j (Some q) else earlier_at s ws x j (Some q)) (lt_true q p before)

-- behind its ask a channel's register holds the word
pub held_read : (s : BlitRegs) (ws : List ℕ) (x : WordAsk) (j p : ℕ) → AllBefore (place_of s x) p → held_word s ws x j p ≡ channel_word s ws x j
unfolding channel_word
held_read s ws x j p before = held_is s ws x j p ∙ read_at s ws x j p (place_of s x) before

first_at : (s : BlitRegs) (ws : List ℕ) (x : WordAsk) (j : ℕ) (o : Option ℕ) → held_at s ws x j 0 o ≡ earlier_at s ws x j o
first_at s ws x j None = refl
first_at s ws x j (Some q) = ap (λ (b : Bool). if b then word_at_place s ws x j (Some q) else earlier_at s ws x j (Some q)) (lt_false q 0 (omega arith))

-- at the first ask of the next word it still holds it
pub held_first : (s : BlitRegs) (ws : List ℕ) (x : WordAsk) (j : ℕ) → held_word s ws x (suc j) 0 ≡ channel_word s ws x j
unfolding channel_word
held_first s ws x j = held_is s ws x (suc j) 0 ∙ first_at s ws x (suc j) (place_of s x)

-- and at the first ask of all the word that it had
pub held_begin : (s : BlitRegs) (x : WordAsk) → held_word s [] x 0 0 ≡ data_register s x
held_begin s x = held_is s [] x 0 0 ∙ first_at s [] x 0 (place_of s x)
