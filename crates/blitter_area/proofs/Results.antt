-- The result of a word by the data path is that by position, and so is what it leaves.
use Rattle.std.proofs.Common.{◌≡◌, inl, inr, ℕ, suc, ◌+◌, ◌*◌, ◌/◌, ◌%◌, ◌<◌, Bool, true, false, if◌then◌else◌, List, sym, ap, ◌∙◌, refl, count_ones}
use Rattle.std.proofs.lemmas.Nat.{div-mul-add, mod-mul-add}
use Rattle.std.proofs.lemmas.Bool.{cases_eq}
use Rattle.blit_words.specs.declared.blit.BlitRegs.{BlitRegs}
use Rattle.blit_words.specs.declared.blit.WordAsk.TheVariants.{A, B, C}
use Rattle.blit_words.specs.BlitWords.{masked_word, filled_word, one_if}
use Rattle.blit_words.specs.Blit.{width_of, minterms_of, shift_of_a}
use Rattle.blit_words.specs.AreaBlit.{channel_word, masked_a, joined_word, ones_in_row, result_word, is_filling, is_exclusive, is_descending, previous_b}
use Rattle.blit_words.specs.Parity.{is_carry}
use Rattle.blit_words.proofs.Filling.{carry_more, filled_by_carry}
use Rattle.blitter_area.specs.declared.data_path.Words.{Words}
use Rattle.blitter_area.specs.declared.data_path.Past.{Past}
use Rattle.blitter_area.specs.declared.data_path.Outcome.{Outcome}
use Rattle.blitter_area.specs.declared.data_path.DataPath.{DataPath}
use Rattle.blitter_area.specs.Data.{joined_by, mask_words, outcome_filled, outcome_plain, outcome_of}
use Rattle.blitter_area.specs.Path.{IsPathOf, joined_with, mask_with, outcome_with}
use Rattle.blitter_area.specs.Walk.{IsPast}
use Rattle.blitter_area.proofs.Copies.{minterm_same}

-- the inputs of word c of row r
pub record AreInputs (w : Words) (s : BlitRegs) (ws : List ℕ) (j : ℕ) : Type 0 where
  pub of_a : w.a ≡ channel_word s ws A j
  pub of_b : w.b ≡ channel_word s ws B j
  pub of_c : w.c ≡ channel_word s ws C j

masked_is : (s : BlitRegs) (ws : List ℕ) (r c : ℕ) (w : Words) → c < width_of s → AreInputs w s ws (r * width_of s + c)
    → masked_word s.afwm s.alwm (width_of s) c w.a ≡ masked_a s ws (r * width_of s + c)
unfolding masked_a
masked_is s ws r c w inside inputs =
    ap (λ (n : ℕ). masked_word s.afwm s.alwm (width_of s) c n) inputs.of_a
    ∙ ap (λ (n : ℕ). masked_word s.afwm s.alwm (width_of s) n (channel_word s ws A (r * width_of s + c))) (sym (mod-mul-add r (width_of s) c inside))

joined_is : (s : BlitRegs) (ws : List ℕ) (r c : ℕ) (w : Words) (p : Past) → c < width_of s
    → AreInputs w s ws (r * width_of s + c)
    → IsPast p s ws r c
    → joined_by s p (mask_words s c w) ≡ joined_word s ws (r * width_of s + c)
unfolding joined_by joined_word
joined_is s ws r c w p inside inputs past =
    let masked = masked_is s ws r c w inside inputs in
    let a = past.of_a in
    let own_b = inputs.of_b in
    let own_c = inputs.of_c in
    let j : ℕ = r * width_of s + c in
    let of_b : p.b ≡ previous_b s ws j → joined_by s p (mask_words s c w) ≡ joined_word s ws j = λ b. cc in
    elim (cases_eq (minterms_of s) 240) [
      | inl copies ↦
          let q : Past = record p { b = previous_b s ws j } in
          let b : q.b ≡ previous_b s ws j = refl in
          let same : joined_by s q (mask_words s c w) ≡ joined_word s ws j = cc in
          minterm_same (minterms_of s) (is_descending s) (shift_of_a s) p.a (mask_words s c w).a _ w.c _ w.c copies ∙ same
      | inr other ↦ of_b (past.of_b other)
    ]

past_word : (f e : Bool) (p : Past) (w : Words) (n : ℕ)
    → (if f then outcome_filled e p w n else outcome_plain p w n).word ≡ (if f then filled_word e (one_if p.carry) n else n)
past_word true e p w n = refl
past_word false e p w n = refl

pub outcome_word : (s : BlitRegs) (ws : List ℕ) (r c : ℕ) (w : Words) (p : Past) → c < width_of s
    → AreInputs w s ws (r * width_of s + c)
    → IsPast p s ws r c
    → (outcome_of s p c w).word ≡ result_word s ws (r * width_of s + c)
unfolding result_word
outcome_word s ws r c w p inside inputs past =
    let j : ℕ = r * width_of s + c in
    let joined = joined_is s ws r c w p inside inputs past in
    let row = div-mul-add r (width_of s) c inside in
    let column = mod-mul-add r (width_of s) c inside in
    let ones : ones_in_row s ws r c ≡ ones_in_row s ws (j / width_of s) (j % width_of s) = cc in
    past_word (is_filling s) (is_exclusive s) p (mask_words s c w) (joined_by s p (mask_words s c w))
    ∙ elim (is_filling s) as (λ (f : Bool). (f ≡ true → p.carry ≡ is_carry (ones_in_row s ws r c))
    → (if f then filled_word (is_exclusive s) (one_if p.carry) (joined_by s p (mask_words s c w)) else joined_by s p (mask_words s c w))
    ≡ (if f then filled_word (is_exclusive s) (ones_in_row s ws (j / width_of s) (j % width_of s)) (joined_word s ws j) else joined_word s ws j)) [
      | true ↦ (λ h.
          ap (λ (b : Bool). filled_word (is_exclusive s) (one_if b) (joined_by s p (mask_words s c w))) (h refl)
          ∙ filled_by_carry (is_exclusive s) (ones_in_row s ws r c) (joined_by s p (mask_words s c w))
          ∙ ap (λ (n : ℕ). filled_word (is_exclusive s) n (joined_by s p (mask_words s c w))) ones
          ∙ ap (λ (n : ℕ). filled_word (is_exclusive s) (ones_in_row s ws (j / width_of s) (j % width_of s)) n) joined)
      | false ↦ (λ h. joined)
    ] past.carry

-- what a word leaves does not depend on the fill but for the carry
past_a : (f e : Bool) (p : Past) (w : Words) (n : ℕ) → (if f then outcome_filled e p w n else outcome_plain p w n).past.a ≡ w.a
past_a true e p w n = refl
past_a false e p w n = refl

pub outcome_a : (s : BlitRegs) (ws : List ℕ) (r c : ℕ) (w : Words) (p : Past) → c < width_of s → AreInputs w s ws (r * width_of s + c)
    → (outcome_of s p c w).past.a ≡ masked_a s ws (r * width_of s + c)
outcome_a s ws r c w p inside inputs =
    past_a (is_filling s) (is_exclusive s) p (mask_words s c w) (joined_by s p (mask_words s c w)) ∙ masked_is s ws r c w inside inputs

past_b : (f e : Bool) (p : Past) (w : Words) (n : ℕ) → (if f then outcome_filled e p w n else outcome_plain p w n).past.b ≡ w.b
past_b true e p w n = refl
past_b false e p w n = refl

pub outcome_b : (s : BlitRegs) (ws : List ℕ) (r c : ℕ) (w : Words) (p : Past) → AreInputs w s ws (r * width_of s + c)
    → (outcome_of s p c w).past.b ≡ channel_word s ws B (r * width_of s + c)
outcome_b s ws r c w p inputs =
    past_b (is_filling s) (is_exclusive s) p (mask_words s c w) (joined_by s p (mask_words s c w)) ∙ inputs.of_b

past_carry : (f e : Bool) (p : Past) (w : Words) (n : ℕ) → f ≡ true
    → (if f then outcome_filled e p w n else outcome_plain p w n).past.carry ≡ is_carry (one_if p.carry + count_ones n)
past_carry true e p w n h = refl
past_carry false e p w n h = cc

pub outcome_carry : (s : BlitRegs) (ws : List ℕ) (r c : ℕ) (w : Words) (p : Past) → c < width_of s
    → AreInputs w s ws (r * width_of s + c)
    → IsPast p s ws r c
    → is_filling s ≡ true
    → (outcome_of s p c w).past.carry ≡ is_carry (ones_in_row s ws r (suc c))
unfolding ones_in_row
outcome_carry s ws r c w p inside inputs past filling =
    let n : ℕ = ones_in_row s ws r c in
    past_carry (is_filling s) (is_exclusive s) p (mask_words s c w) (joined_by s p (mask_words s c w)) filling
    ∙ ap (λ (b : Bool). is_carry (one_if b + count_ones (joined_by s p (mask_words s c w)))) (past.carry filling)
    ∙ carry_more n (count_ones (joined_by s p (mask_words s c w)))
    ∙ ap (λ (k : ℕ). is_carry (n + count_ones k)) (joined_is s ws r c w p inside inputs past)

pub first_carry : (b : Bool) → b ≡ is_carry (one_if b)
first_carry true = refl
first_carry false = refl

-- ---- the data path made ready

ready_mask : (d : DataPath) (s : BlitRegs) (c : ℕ) (w : Words) → IsPathOf d s → mask_with d c w ≡ mask_words s c w
ready_mask d s c w is =
    ap (λ (n : ℕ). record w { a = masked_word n d.last_mask (d.last_column + 1) c w.a }) is.first_mask
    ∙ ap (λ (n : ℕ). record w { a = masked_word s.afwm n (d.last_column + 1) c w.a }) is.last_mask
    ∙ ap (λ (n : ℕ). record w { a = masked_word s.afwm s.alwm n c w.a }) is.last_column

ready_join : (d : DataPath) (s : BlitRegs) (past : Past) (w : Words) → IsPathOf d s → joined_with d past w ≡ joined_by s past w
unfolding joined_by
ready_join d s past w is =
    let lf = is.minterms in
    let down = is.descending in
    let a = is.shift_a in
    let b = is.shift_b in
    cc

-- it makes of a word what the registers say
pub ready_outcome : (d : DataPath) (s : BlitRegs) (past : Past) (c : ℕ) (w : Words) → IsPathOf d s → outcome_with d past c w ≡ outcome_of s past c w
ready_outcome d s past c w is =
    let made : Bool → Bool → Words → ℕ → Outcome = λ fills exclusive m n. if fills then outcome_filled exclusive past m n else outcome_plain past m n in
    ap (λ (f : Bool). made f d.exclusive (mask_with d c w) (joined_with d past (mask_with d c w))) is.fills
    ∙ ap (λ (e : Bool). made (is_filling s) e (mask_with d c w) (joined_with d past (mask_with d c w))) is.exclusive
    ∙ ap (λ (n : ℕ). made (is_filling s) (is_exclusive s) (mask_with d c w) n) (ready_join d s past (mask_with d c w) is)
    ∙ ap (λ (m : Words). made (is_filling s) (is_exclusive s) m (joined_by s past m)) (ready_mask d s c w is)
