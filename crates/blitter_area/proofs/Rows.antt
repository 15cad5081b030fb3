-- The rows of asks, read off the table: where a channel has its ask, and that D has the last.
use Rattle.std.proofs.Common.{arith, ◌≡◌, ◌≢◌, inl, inr, ℕ, zero, suc, ◌+◌, ◌-◌, ◌<◌, ◌≤◌, Bool, true, false, not, ◌&&◌, ◌||◌, nat_eq, ◌==◌, ◌/◌, ◌%◌, if◌then◌else◌}
use Rattle.std.proofs.Common.{nat_lt, List, [], ◌∷◌, ◌++◌, length, replicate, get_or, Option, Some, None, sym, ap, ◌∙◌, refl}
use Rattle.std.proofs.lemmas.Bool.{ltb-true, cases_lt}
use Rattle.std.proofs.lemmas.List.{length-append, length-replicate, get_or_default, get_or_past}
use Rattle.std.specs.List.{position}
use Rattle.blit_words.specs.declared.blit.BlitRegs.{BlitRegs}
use Rattle.blit_words.specs.declared.blit.WordAsk.{WordAsk}
use Rattle.blit_words.specs.declared.blit.WordAsk.TheVariants.{A, B, C, D, Rest}
use Rattle.blit_words.specs.AreaBlit.{asks_in, code_of, asks_per_word, word_ask, place_of, is_same, is_used}
use Rattle.blitter_area.specs.Row.{IsRowOf}
use Rattle.blitter_area.specs.declared.asks.AskRow.{AskRow}

-- ---- tests of all numbers below one

abbrev all_below : ℕ → (ℕ → Bool) → Bool
all_below zero test = true
all_below (suc n) test = test n && all_below n test

both_true : (a b : Bool) → (a && b) ≡ true → (a ≡ true) × (b ≡ true)
both_true true b h = (refl, h)
both_true false b h = cc

from_all : (n : ℕ) (test : ℕ → Bool) → all_below n test ≡ true → (k : ℕ) → k < n → test k ≡ true
from_all zero test pass k low = absurd (omega arith)
from_all (suc n) test pass k low =
    let both = both_true (test n) (all_below n test) pass in
    elim (cases_lt k n) [
      | inl below ↦ from_all n test both.1 k below
      | inr above ↦ let e : k ≡ n = omega arith in ap test e ∙ both.0
    ]

-- ---- the tests

abbrev pub is_at : ℕ → Option ℕ → Bool
is_at p None = false
is_at p (Some q) = nat_eq q p

-- a place is below a number, or there is none
abbrev pub is_first : Option ℕ → ℕ → Bool
is_first None n = true
is_first (Some q) n = nat_lt q n

abbrev are_equal : Bool → Bool → Bool
are_equal true b = b
are_equal false b = not b

from_equal : (a b : Bool) → are_equal a b ≡ true → a ≡ b
from_equal true true h = refl
from_equal true false h = sym h
from_equal false true h = h
from_equal false false h = refl

abbrev asks_by_place : WordAsk → ℕ → ℕ → Bool
asks_by_place x code p = are_equal (is_same x (get_or (asks_in code) p Rest)) (is_at p (position (is_same x) (asks_in code)))

abbrev writes_last_in : WordAsk → ℕ → ℕ → Bool
writes_last_in x code p = not (is_same D (get_or (asks_in code) p Rest)) || is_first (position (is_same x) (asks_in code)) p

abbrev row_test : WordAsk → ℕ → Bool
row_test x code =
    all_below (length (asks_in code)) (asks_by_place x code)
    && is_first (position (is_same x) (asks_in code)) (length (asks_in code))

abbrev d_test : WordAsk → ℕ → Bool
d_test x code = all_below (length (asks_in code)) (writes_last_in x code)

abbrev ends_at_write : ℕ → ℕ → Bool
ends_at_write code p = not (is_same D (get_or (asks_in code) p Rest)) || nat_eq (suc p) (length (asks_in code))

abbrev end_test : ℕ → Bool
end_test code = all_below (length (asks_in code)) (ends_at_write code)

-- the last ask is D where its bit of the code is set, and only there
abbrev last_test : ℕ → Bool
last_test code = are_equal (is_same D (get_or (asks_in code) (length (asks_in code) - 1) Rest)) (code % 2 == 1)

abbrev first_test : ℕ → Bool
first_test code = not (is_same D (get_or (asks_in code) 0 Rest))

abbrev size_test : ℕ → Bool
size_test code = nat_lt 0 (length (asks_in code)) && nat_lt (length (asks_in code)) 5

rows_pass : (x : WordAsk) → all_below 16 (row_test x) ≡ true
unfolding asks_in
rows_pass A = refl
rows_pass B = refl
rows_pass C = refl
rows_pass D = refl
rows_pass Rest = refl

last_pass : all_below 16 last_test ≡ true
unfolding asks_in
last_pass = refl

sizes_pass : all_below 16 size_test ≡ true
unfolding asks_in
sizes_pass = refl

first_pass : all_below 16 first_test ≡ true
unfolding asks_in
first_pass = refl

ends_pass : all_below 16 end_test ≡ true
unfolding asks_in
ends_pass = refl

abbrev pub is_input : WordAsk → Bool
is_input A = true
is_input B = true
is_input C = true
is_input D = false
is_input Rest = false

inputs_pass : (x : WordAsk) → is_input x ≡ true → all_below 16 (d_test x) ≡ true
unfolding asks_in
inputs_pass A h = refl
inputs_pass B h = refl
inputs_pass C h = refl
inputs_pass D h = cc
inputs_pass Rest h = cc

-- ---- what they give for a blit

code_below : (s : BlitRegs) → code_of s < 16
code_below s = omega arith

-- a place is below a number, or there is none, as a fact
abbrev pub AllBefore : Option ℕ → ℕ → Type 0
AllBefore None n = Unit {0}
AllBefore (Some q) n = q < n

before_from : (o : Option ℕ) (n : ℕ) → is_first o n ≡ true → AllBefore o n
before_from None n h = tt
before_from (Some q) n h = ltb-true q n h

-- the ask at a place is a channel's exactly where that is the channel's place
pub asked_at : (s : BlitRegs) (x : WordAsk) (p : ℕ) → p < asks_per_word s → is_same x (word_ask s p) ≡ is_at p (place_of s x)
unfolding asks_per_word word_ask place_of
asked_at s x p low =
    let both = both_true _ _ (from_all 16 (row_test x) (rows_pass x) (code_of s) (code_below s)) in
    from_equal _ _ (from_all (length (asks_in (code_of s))) (asks_by_place x (code_of s)) both.0 p low)

-- a channel's place is one of the word's
pub place_within : (s : BlitRegs) (x : WordAsk) → AllBefore (place_of s x) (asks_per_word s)
unfolding asks_per_word place_of
place_within s x =
    let both = both_true _ _ (from_all 16 (row_test x) (rows_pass x) (code_of s) (code_below s)) in
    before_from _ _ both.1

or_true : (a b : Bool) → a ≡ true → (not a || b) ≡ true → b ≡ true
or_true true b is h = h
or_true false b is h = cc

-- D asks when all inputs have their words
pub writes_last : (s : BlitRegs) (x : WordAsk) (p : ℕ) → is_input x ≡ true → p < asks_per_word s → word_ask s p ≡ D → AllBefore (place_of s x) p
unfolding asks_per_word word_ask place_of
writes_last s x p input low writes =
    let test = from_all 16 (d_test x) (inputs_pass x input) (code_of s) (code_below s) in
    let here = from_all (length (asks_in (code_of s))) (writes_last_in x (code_of s)) test p low in
    before_from _ _ (or_true _ _ (ap (is_same D) writes) here)

-- and no ask of its word is behind it
pub write_ends : (s : BlitRegs) (p : ℕ) → p < asks_per_word s → word_ask s p ≡ D → p + 1 ≡ asks_per_word s
unfolding asks_per_word word_ask
write_ends s p low writes =
    let test = from_all 16 end_test ends_pass (code_of s) (code_below s) in
    let here = from_all (length (asks_in (code_of s))) (ends_at_write (code_of s)) test p low in
    let same = or_true _ _ (ap (is_same D) writes) here in
    grind arith

same_write : (k : WordAsk) → is_same D k ≡ true → k ≡ D
same_write A h = cc
same_write B h = cc
same_write C h = cc
same_write D h = refl
same_write Rest h = cc

used_in : (s : BlitRegs) → is_used s D ≡ (code_of s % 2 == 1)
used_in s =
    let e : s.con0 / 256 % 2 ≡ code_of s % 2 = omega arith in
    ap (λ (n : ℕ). n == 1) e

last_asks : (s : BlitRegs) (p : ℕ) → p + 1 ≡ asks_per_word s → is_same D (word_ask s p) ≡ is_used s D
unfolding asks_per_word word_ask
last_asks s p last =
    let l : List WordAsk = asks_in (code_of s) in
    let e : p ≡ length l - 1 = omega (arith, last) in
    ap (λ (n : ℕ). is_same D (get_or l n Rest)) e
    ∙ from_equal _ _ (from_all 16 last_test last_pass (code_of s) (code_below s))
    ∙ sym (used_in s)

-- the last ask is the write where D is used
pub used_writes : (s : BlitRegs) (p : ℕ) → is_used s D ≡ true → p + 1 ≡ asks_per_word s → word_ask s p ≡ D
used_writes s p used last = same_write (word_ask s p) (last_asks s p last ∙ used)

-- and only there does a word write
pub writes_used : (s : BlitRegs) (p : ℕ) → p < asks_per_word s → word_ask s p ≡ D → is_used s D ≡ true
writes_used s p low writes = sym (last_asks s p (write_ends s p low writes)) ∙ ap (is_same D) writes

-- the last input is the last ask or comes before it
pub inputs_first : (s : BlitRegs) (r : AskRow) → IsRowOf r s → r.last_input ≤ r.last
inputs_first s r is = elim (is_used s D) as (λ (u : Bool). (if u then r.last_input + 1 else r.last_input) ≡ r.last → r.last_input ≤ r.last) [
  | true ↦ (λ e. omega (arith, e))
  | false ↦ (λ e. omega (arith, e))
] is.last_input

-- behind the last input there is the write, if another ask at all
pub input_then : (s : BlitRegs) (r : AskRow) (p : ℕ) → IsRowOf r s → r.last_input ≤ p → p < r.last → word_ask s (p + 1) ≡ D
input_then s r p is behind before =
    let last = is.last in
    let goal : Type 0 = word_ask s (p + 1) ≡ D in
    elim (is_used s D) as (λ (u : Bool). is_used s D ≡ u → (if u then r.last_input + 1 else r.last_input) ≡ r.last → goal) [
      | true ↦ (λ used e. let end : p + 1 + 1 ≡ asks_per_word s = omega (arith, e, last, behind, before) in used_writes s (p + 1) used end)
      | false ↦ (λ used e. absurd (omega (arith, e, behind, before)))
    ] refl is.last_input

-- up to the last input no ask is the write
pub input_reads : (s : BlitRegs) (r : AskRow) (p : ℕ) → IsRowOf r s → p ≤ r.last_input → word_ask s p ≢ D
input_reads s r p is within writes =
    let last = is.last in
    let low : p < asks_per_word s = elim (is_used s D) as (λ (u : Bool). (if u then r.last_input + 1 else r.last_input) ≡ r.last → p < asks_per_word s) [
      | true ↦ (λ e. omega (arith, e, last, within))
      | false ↦ (λ e. omega (arith, e, last, within))
    ] is.last_input in
    let used = writes_used s p low writes in
    let end = write_ends s p low writes in
    let e : r.last_input + 1 ≡ r.last = ap (λ (u : Bool). if u then r.last_input + 1 else r.last_input) (sym used) ∙ is.last_input in
    omega (arith, e, last, within, end)

not_true : (b : Bool) → b ≡ true → not b ≡ true → ⊥
not_true true is h = cc
not_true false is h = cc

-- no word begins with its write
pub first_reads : (s : BlitRegs) → word_ask s 0 ≢ D
unfolding word_ask
first_reads s writes = not_true _ (ap (is_same D) writes) (from_all 16 first_test first_pass (code_of s) (code_below s))

pub some_asks : (s : BlitRegs) → 0 < asks_per_word s
unfolding asks_per_word
some_asks s =
    let both = both_true _ _ (from_all 16 size_test sizes_pass (code_of s) (code_below s)) in
    ltb-true _ _ both.0

pub few_asks : (s : BlitRegs) → asks_per_word s < 5
unfolding asks_per_word
few_asks s =
    let both = both_true _ _ (from_all 16 size_test sizes_pass (code_of s) (code_below s)) in
    ltb-true _ _ both.1

-- a blit from A to D reads A and then writes
pub copied_asks : (s : BlitRegs) → code_of s ≡ 9 → asks_per_word s ≡ 2
unfolding asks_per_word asks_in
copied_asks s is = ap (λ (n : ℕ). length (asks_in n)) is

pub copied_read : (s : BlitRegs) → code_of s ≡ 9 → word_ask s 0 ≡ A
unfolding word_ask asks_in
copied_read s is = ap (λ (n : ℕ). get_or (asks_in n) 0 Rest) is

pub copied_write : (s : BlitRegs) → code_of s ≡ 9 → word_ask s 1 ≡ D
unfolding word_ask asks_in
copied_write s is = ap (λ (n : ℕ). get_or (asks_in n) 1 Rest) is

-- ---- the row with rests behind its last ask

rests : (n p : ℕ) → get_or (replicate n Rest) p Rest ≡ Rest
rests zero p = refl
rests (suc n) zero = refl
rests (suc n) (suc p) = rests n p

pub padded_at : (n : ℕ) (l : List WordAsk) (p : ℕ) → get_or (l ++ replicate n Rest) p Rest ≡ get_or l p Rest
padded_at n [] p = rests n p
padded_at n (x ∷ l) zero = refl
padded_at n (x ∷ l) (suc p) = padded_at n l p

-- the kept row has the word's asks
pub row_at : (s : BlitRegs) (r : AskRow) (p : ℕ) (d : WordAsk) → IsRowOf r s → p < 4 → get_or r.asks p d ≡ word_ask s p
unfolding word_ask
row_at s r p d is low =
    let l : List WordAsk = asks_in (code_of s) in
    let e : length r.asks ≡ length l + (4 - length l) =
    ap length is.asks ∙ length-append l (replicate (4 - length l) Rest) ∙ ap (λ (n : ℕ). length l + n) (length-replicate (4 - length l) Rest) in
    let inside : p < length r.asks = omega arith in
    get_or_default r.asks p d Rest inside
    ∙ ap (λ (k : List WordAsk). get_or k p Rest) is.asks
    ∙ padded_at (4 - length l) l p

pub past_row : (s : BlitRegs) (p : ℕ) → 4 ≤ p → word_ask s p ≡ Rest
unfolding word_ask asks_per_word
past_row s p high =
    let both = both_true _ _ (from_all 16 size_test sizes_pass (code_of s) (code_below s)) in
    let few : length (asks_in (code_of s)) < 5 = ltb-true _ _ both.1 in
    get_or_past (asks_in (code_of s)) p Rest (omega arith)
