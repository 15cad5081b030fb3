-- Where A is the minterm, with neither shift nor mask nor fill, its word is the result as it is.
use Rattle.std.proofs.Common.{arith, ◌≡◌, ℕ, zero, suc, ◌+◌, ◌*◌, ◌<◌, ◌==◌, Bool, true, false, if◌then◌else◌, bit_and, sym, ap, ◌∙◌, refl}
use Rattle.std.proofs.lemmas.Nat.{and_mask}
use Rattle.std.proofs.lemmas.Nat.Bits.{bit_at-lt}
use Rattle.std.specs.Int.{bit_at}
use Rattle.blit_words.specs.BlitWords.{minterm_of, shifted_input, masked_word}
use Rattle.blit_words.proofs.Numbers.{from_digits}
use Rattle.blitter_area.specs.declared.data_path.Words.{Words}
use Rattle.blitter_area.specs.declared.data_path.Past.{Past}
use Rattle.blitter_area.specs.declared.data_path.DataPath.{DataPath}
use Rattle.blitter_area.specs.declared.data_path.Outcome.{Outcome}
use Rattle.blitter_area.specs.Data.{outcome_filled, outcome_plain}
use Rattle.blitter_area.specs.Path.{joined_with, outcome_with}

-- ---- masks of ones and no shift

full_mask : (n : ℕ) → n < 65536 → bit_and n 65535 ≡ n
full_mask n low = omega (arith, and_mask n 16)

masked_by : (first last : Bool) (word : ℕ) → word < 65536
    → (let a = if first then bit_and word 65535 else word in if last then bit_and a 65535 else a) ≡ word
masked_by true true word low = ap (λ (n : ℕ). bit_and n 65535) (full_mask word low) ∙ full_mask word low
masked_by true false word low = full_mask word low
masked_by false true word low = full_mask word low
masked_by false false word low = refl

unshifted : (descending : Bool) (before word : ℕ) → before < 65536 → word < 65536 → shifted_input descending 0 before word ≡ word
unshifted true before word before_low low = omega arith
unshifted false before word before_low low = omega arith

-- ---- the minterm of A

-- the bit of LF for each choice of three bits is that of A
of_a : (a b c : ℕ) → a < 2 → b < 2 → c < 2 → a ≡ bit_at 240 (4 * a + 2 * b + c)
of_a zero zero zero ha hb hc = refl
of_a zero zero (suc zero) ha hb hc = refl
of_a zero (suc zero) zero ha hb hc = refl
of_a zero (suc zero) (suc zero) ha hb hc = refl
of_a (suc zero) zero zero ha hb hc = refl
of_a (suc zero) zero (suc zero) ha hb hc = refl
of_a (suc zero) (suc zero) zero ha hb hc = refl
of_a (suc zero) (suc zero) (suc zero) ha hb hc = refl
of_a (suc (suc a)) b c ha hb hc = omega arith
of_a zero (suc (suc b)) c ha hb hc = omega arith
of_a (suc zero) (suc (suc b)) c ha hb hc = omega arith
of_a zero zero (suc (suc c)) ha hb hc = omega arith
of_a zero (suc zero) (suc (suc c)) ha hb hc = omega arith
of_a (suc zero) zero (suc (suc c)) ha hb hc = omega arith
of_a (suc zero) (suc zero) (suc (suc c)) ha hb hc = omega arith

pub minterm_is : (a b c : ℕ) → a < 65536 → minterm_of 240 a b c ≡ a
unfolding minterm_of
minterm_is a b c low =
    sym (from_digits 16 a (λ (i : ℕ). bit_at 240 (4 * bit_at a i + 2 * bit_at b i + bit_at c i)) low (λ i below.
    of_a (bit_at a i) (bit_at b i) (bit_at c i) (bit_at-lt a i) (bit_at-lt b i) (bit_at-lt c i)))

pub shifted_low : (descending : Bool) (shift before word : ℕ) → shifted_input descending shift before word < 65536
shifted_low true shift before word = omega arith
shifted_low false shift before word = omega arith

-- whatever B and C are, A alone is the minterm
pub minterm_same : (lf : ℕ) (d : Bool) (shift before word b c b' c' : ℕ) → lf ≡ 240
    → minterm_of lf (shifted_input d shift before word) b c ≡ minterm_of lf (shifted_input d shift before word) b' c'
minterm_same lf d shift before word b c b' c' is =
    let a : ℕ = shifted_input d shift before word in
    let low : a < 65536 = shifted_low d shift before word in
    ap (λ (k : ℕ). minterm_of k a b c) is ∙ minterm_is a b c low ∙ sym (minterm_is a b' c' low) ∙ sym (ap (λ (k : ℕ). minterm_of k a b' c') is)

-- ---- the outcome

pub joined_is : (d : DataPath) (before word : ℕ) → d.copies ≡ true → before < 65536 → word < 65536
    → (b c : ℕ) → word ≡ minterm_of d.minterms.lf (shifted_input d.descending d.shift_a before word) b c
joined_is d before word copies before_low low b c =
    let is = d.copies_is copies in
    sym (ap (λ (lf : ℕ). minterm_of lf (shifted_input d.descending d.shift_a before word) b c) is.minterm
    ∙ ap (λ (shift : ℕ). minterm_of 240 (shifted_input d.descending shift before word) b c) is.no_shift
    ∙ ap (λ (a : ℕ). minterm_of 240 a b c) (unshifted d.descending before word before_low low)
    ∙ minterm_is word b c low)

pub masked_is : (d : DataPath) (column word : ℕ) → d.copies ≡ true → word < 65536
    → word ≡ masked_word d.first_mask d.last_mask (d.last_column + 1) column word
masked_is d column word copies low =
    let is = d.copies_is copies in
    sym (ap (λ (first : ℕ). masked_word first d.last_mask (d.last_column + 1) column word) is.first_mask
    ∙ ap (λ (last : ℕ). masked_word 65535 last (d.last_column + 1) column word) is.last_mask
    ∙ masked_by (column == 0) (column + 1 == d.last_column + 1) word low)

-- a word that is the masked one and the minterm is the outcome, where nothing is filled
pub copied : (d : DataPath) (past : Past) (column : ℕ) (w : Words) (word : ℕ) → d.copies ≡ true
    → word ≡ masked_word d.first_mask d.last_mask (d.last_column + 1) column w.a
    → ((b c : ℕ) → word ≡ minterm_of d.minterms.lf (shifted_input d.descending d.shift_a past.a word) b c)
    → outcome_plain past (record w { a = word }) word ≡ outcome_with d past column w
copied d past column w word copies masked joined =
    let x : Words = record w { a = word } in
    ap (outcome_plain past x) (joined (shifted_input d.descending d.shift_b past.b w.b) w.c)
    ∙ ap (λ (f : Bool). if f then outcome_filled d.exclusive past x (joined_with d past x) else outcome_plain past x (joined_with d past x))
    (sym (d.copies_plain copies))
    ∙ ap (λ (y : Words). if d.fills then outcome_filled d.exclusive past y (joined_with d past y) else outcome_plain past y (joined_with d past y))
    (ap (λ (a : ℕ). record w { a = a }) masked)

-- so the result is what its word leaves of A
pub copied_alike : (d : DataPath) (past : Past) (column : ℕ) (w : Words) → d.copies ≡ true → past.a < 65536 → w.a < 65536
    → ((outcome_with d past column w).word ≡ w.a) × ((outcome_with d past column w).past.a ≡ w.a)
copied_alike d past column w copies before_low low =
    let is = copied d past column w w.a copies (masked_is d column w.a copies low) (joined_is d past.a w.a copies before_low low) in
    (ap (λ (o : Outcome). o.word) (sym is), ap (λ (o : Outcome). o.past.a) (sym is))
