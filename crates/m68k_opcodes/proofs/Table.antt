-- What is computed for each line of opcodes, that is for each first four bits, and what follows from it: the code's way to
-- take an opcode apart agrees with the table of instructions, and no opcode is in two rows.
use Rattle.std.proofs.Common.{◌≡◌, ◌≤◌, ◌<◌, ℕ, suc, zero, ◌+◌, ◌-◌, ◌*◌, ◌/◌, ◌%◌, ◌^◌, ◌==◌, bit_and}
use Rattle.std.proofs.Common.{Bool, true, false, ◌&&◌, ◌||◌, if◌then◌else◌, List, [], ◌∷◌, ◌++◌, length}
use Rattle.std.proofs.Common.{refl, ap, sym, ◌∙◌, subst, inl, inr, arith, eqb-true}
use Rattle.std.proofs.lemmas.Bool.{cases_eq, eqb-false}
use Rattle.std.proofs.lemmas.Nat.{and_shr, and_mask, shr-shr}
use Rattle.m68k_opcodes.specs.declared.instr.Instr.{Instr}
use Rattle.m68k_opcodes.specs.Text.{mask, value, fits, digits, space, zero_digit, one_digit, field}
use Rattle.m68k_opcodes.specs.Row.{Row, no_row, in_row, size_fits, mode_fits, dest_fits, joined, taking, first, made, taken}
use Rattle.m68k_opcodes.specs.Table.{groups, rows, decode_of, clocks_at, rows_at}
use Rattle.m68k_opcodes.specs.Table.{rows_0, rows_move, rows_4, rows_5, rows_6, rows_7, rows_8}
use Rattle.m68k_opcodes.specs.Table.{rows_9, rows_A, rows_B, rows_C, rows_D, rows_E, rows_F}
use Rattle.m68k_opcodes.specs.code.Timing.{timing}
use Rattle.m68k_opcodes.specs.declared.operand.Size.{Size}
use Rattle.m68k_opcodes.specs.declared.operand.Size.TheVariants as S
use Rattle.m68k_opcodes.specs.Clocks.{Always}
use Rattle.m68k_opcodes.specs.Modes.{sized, ea, move_dest}
use Rattle.m68k_opcodes.specs.Letters.{ss, s, zz, z, e, dest}
use Rattle.m68k_opcodes.proofs.Keys.{key, same, same_key}

-- ---- what a pattern says of an opcode's bits, with one call for each place

-- Both branches of an `if` are computed, so `digits` takes twice as long for each place more. This one does not.
abbrev pub bits : (ℕ → ℕ) → ℕ → List ℕ → ℕ
bits d n [] = n
bits d n (c ∷ cs) = bits d (if c == space then n else 2 * n + d c) cs

bits_are_digits : (d : ℕ → ℕ) (n : ℕ) (cs : List ℕ) → bits d n cs ≡ digits d n cs
bits_are_digits d n [] = refl
bits_are_digits d n (c ∷ cs) =
    let P : Bool → Type 0 = λ b. bits d (if b then n else 2 * n + d c) cs ≡ (if b then digits d n cs else digits d (2 * n + d c) cs) in
    let split : (b : Bool) → P b = (λ b. elim b as P [ true ↦ bits_are_digits d n cs | false ↦ bits_are_digits d (2 * n + d c) cs ]) in
    split (c == space)

abbrev pub mask_bits : List ℕ → ℕ
mask_bits text = bits (λ c. if (c == zero_digit) || (c == one_digit) then 1 else 0) 0 text

abbrev pub value_bits : List ℕ → ℕ
value_bits text = bits (λ c. if c == one_digit then 1 else 0) 0 text

mask_is : (text : List ℕ) → mask_bits text ≡ mask text
mask_is text = bits_are_digits _ 0 text

value_is : (text : List ℕ) → value_bits text ≡ value text
value_is text = bits_are_digits _ 0 text

abbrev pub in_row_by_bits : Row → ℕ → Bool
in_row_by_bits r n = (bit_and n (mask_bits r.text) == value_bits r.text) && size_fits r.text n && mode_fits r n && dest_fits r.text n

abbrev pub taking_by_bits : List Row → ℕ → List Row
taking_by_bits [] n = []
taking_by_bits (r ∷ rs) n = if in_row_by_bits r n then r ∷ taking_by_bits rs n else taking_by_bits rs n

in_row_is : (r : Row) (n : ℕ) → in_row_by_bits r n ≡ in_row r n
in_row_is r n =
    ap (λ m. (bit_and n m == value_bits r.text) && size_fits r.text n && mode_fits r n && dest_fits r.text n) (mask_is r.text)
    ∙ ap (λ v. (bit_and n (mask r.text) == v) && size_fits r.text n && mode_fits r n && dest_fits r.text n) (value_is r.text)

taking_is : (rs : List Row) (n : ℕ) → taking_by_bits rs n ≡ taking rs n
taking_is [] n = refl
taking_is (r ∷ rs) n =
    ap (λ b. if b then r ∷ taking_by_bits rs n else taking_by_bits rs n) (in_row_is r n)
    ∙ ap (λ l. if in_row r n then r ∷ l else l) (taking_is rs n)

-- ---- the rows of a line

-- A pattern fixes the first digits, and they are those of d: four digits at q = 0, two at q = 2.
abbrev pub fixes : ℕ → ℕ → Row → Bool
fixes q d r =
    if mask_bits r.text / 2 ^ (12 + q) == 65535 / 2 ^ (12 + q) then value_bits r.text / 2 ^ (12 + q) == d else false

abbrev pub all_fix : ℕ → ℕ → List Row → Bool
all_fix q d [] = true
all_fix q d (r ∷ rs) = if fixes q d r then all_fix q d rs else false

if_both : (a b : Bool) → (if a then b else false) ≡ true → (a ≡ true) × (b ≡ true)
if_both true b h = (refl, h)
if_both false b h = cc

first_digits : (q d : ℕ) (r : Row) (n : ℕ) → fixes q d r ≡ true → n < 65536 → fits r.text n ≡ true → n / 4096 / 2 ^ q ≡ d
first_digits q d r n fixed below here =
    let p = if_both (mask_bits r.text / 2 ^ (12 + q) == 65535 / 2 ^ (12 + q)) (value_bits r.text / 2 ^ (12 + q) == d) fixed in
    let digits : mask r.text / 2 ^ (12 + q) ≡ 65535 / 2 ^ (12 + q) = ap (λ m. m / 2 ^ (12 + q)) (sym (mask_is r.text)) ∙ eqb-true _ _ p.0 in
    let theirs : value r.text / 2 ^ (12 + q) ≡ d = ap (λ v. v / 2 ^ (12 + q)) (sym (value_is r.text)) ∙ eqb-true _ _ p.1 in
    let whole : bit_and n (mask r.text) ≡ value r.text = eqb-true _ _ here in
    let high : bit_and n (mask r.text) / 2 ^ (12 + q) ≡ bit_and (n / 2 ^ (12 + q)) (mask r.text / 2 ^ (12 + q)) = and_shr n (mask r.text) (12 + q) in
    let all : bit_and n 65535 / 2 ^ (12 + q) ≡ bit_and (n / 2 ^ (12 + q)) (65535 / 2 ^ (12 + q)) = and_shr n 65535 (12 + q) in
    let low : bit_and n 65535 ≡ n % 65536 = and_mask n 16 in
    let kept : n % 65536 ≡ n = omega arith in
    let shifted : n / 4096 / 2 ^ q ≡ n / 2 ^ (12 + q) = shr-shr n 12 q in
    let a : n / 2 ^ (12 + q) ≡ bit_and (n / 2 ^ (12 + q)) (65535 / 2 ^ (12 + q)) = ap (λ m. m / 2 ^ (12 + q)) (sym (low ∙ kept)) ∙ all in
    let b : value r.text / 2 ^ (12 + q) ≡ bit_and (n / 2 ^ (12 + q)) (65535 / 2 ^ (12 + q)) =
    ap (λ m. m / 2 ^ (12 + q)) (sym whole) ∙ high ∙ ap (λ m. bit_and (n / 2 ^ (12 + q)) m) digits in
    shifted ∙ a ∙ sym b ∙ theirs

fits_not : (q d : ℕ) (r : Row) (n : ℕ) → fixes q d r ≡ true → n < 65536 → (n / 4096 / 2 ^ q == d) ≡ false → fits r.text n ≡ false
fits_not q d r n fixed below other =
    let P : Bool → Type 0 = λ b. fits r.text n ≡ b → b ≡ false in
    let split : (b : Bool) → P b =
    (λ b. elim b as P [
      | true ↦ λ here. absurd (eqb-false _ _ other (first_digits q d r n fixed below here))
      | false ↦ λ here. refl
    ]) in
    split (fits r.text n) refl

in_row_not : (q d : ℕ) (r : Row) (n : ℕ) → fixes q d r ≡ true → n < 65536 → (n / 4096 / 2 ^ q == d) ≡ false → in_row r n ≡ false
in_row_not q d r n fixed below other = rw (fits_not q d r n fixed below other) refl

takes_none : (q d : ℕ) (rs rest : List Row) (n : ℕ) → all_fix q d rs ≡ true → n < 65536 → (n / 4096 / 2 ^ q == d) ≡ false
    → taking (rs ++ rest) n ≡ taking rest n
takes_none q d [] rest n h below other = refl
takes_none q d (r ∷ rs) rest n h below other =
    let p = if_both (fixes q d r) (all_fix q d rs) h in
    rw (in_row_not q d r n p.0 below other) (takes_none q d rs rest n p.1 below other)

-- rows before the same rows
taking_after : (rs a b : List Row) (n : ℕ) → taking a n ≡ taking b n → taking (rs ++ a) n ≡ taking (rs ++ b) n
taking_after [] a b n h = h
taking_after (r ∷ rs) a b n h =
    let P : Bool → Type 0 = λ t. (if t then r ∷ taking (rs ++ a) n else taking (rs ++ a) n) ≡ (if t then r ∷ taking (rs ++ b) n else taking (rs ++ b) n) in
    let rest : taking (rs ++ a) n ≡ taking (rs ++ b) n = taking_after rs a b n h in
    let split : (t : Bool) → P t = (λ t. elim t as P [ true ↦ ap (λ l. r ∷ l) rest | false ↦ rest ]) in
    split (in_row r n)

-- the first digits that the patterns of each list fix
pub record Digits : Type 0 where
  pub q : ℕ
  pub d : ℕ

abbrev pub Fixed : List Digits → List (List Row) → Type 0
Fixed [] [] = Unit {0}
Fixed [] (g ∷ gs) = ⊥
Fixed (k ∷ ks) [] = ⊥
Fixed (k ∷ ks) (g ∷ gs) = (all_fix k.q k.d g ≡ true) × Fixed ks gs

-- `count` lists, behind the first `before`
abbrev pub window : ℕ → ℕ → List (List Row) → List (List Row)
window before count [] = []
window zero zero (g ∷ gs) = []
window zero (suc count) (g ∷ gs) = g ∷ window zero count gs
window (suc before) count (g ∷ gs) = window before count gs

-- the others begin otherwise than the line
abbrev pub only : ℕ → ℕ → ℕ → List Digits → Bool
only line before count [] = true
only line zero zero (k ∷ ks) = if line / 2 ^ k.q == k.d then false else only line zero zero ks
only line zero (suc count) (k ∷ ks) = only line zero count ks
only line (suc before) count (k ∷ ks) = if line / 2 ^ k.q == k.d then false else only line before count ks

if_neither : (a b : Bool) → (if a then false else b) ≡ true → (a ≡ false) × (b ≡ true)
if_neither true b h = cc
if_neither false b h = (refl, h)

nothing_left : (ks : List Digits) (gs : List (List Row)) (n : ℕ) → Fixed ks gs → n < 65536 → only (n / 4096) zero zero ks ≡ true → [] ≡ taking (joined gs) n
nothing_left [] [] n f below h = refl
nothing_left [] (g ∷ gs) n f below h = absurd f
nothing_left (k ∷ ks) [] n f below h = absurd f
nothing_left (k ∷ ks) (g ∷ gs) n f below h =
    let p = if_neither (n / 4096 / 2 ^ k.q == k.d) (only (n / 4096) zero zero ks) h in
    nothing_left ks gs n f.1 below p.1 ∙ sym (takes_none k.q k.d g (joined gs) n f.0 below p.0)

taking_of_line : (before count : ℕ) (ks : List Digits) (gs : List (List Row)) (n : ℕ) → Fixed ks gs → n < 65536
    → only (n / 4096) before count ks ≡ true → taking (joined (window before count gs)) n ≡ taking (joined gs) n
taking_of_line before count [] [] n f below h = refl
taking_of_line before count [] (g ∷ gs) n f below h = absurd f
taking_of_line before count (k ∷ ks) [] n f below h = absurd f
taking_of_line zero zero (k ∷ ks) (g ∷ gs) n f below h =
    let p = if_neither (n / 4096 / 2 ^ k.q == k.d) (only (n / 4096) zero zero ks) h in
    nothing_left ks gs n f.1 below p.1 ∙ sym (takes_none k.q k.d g (joined gs) n f.0 below p.0)
taking_of_line zero (suc count) (k ∷ ks) (g ∷ gs) n f below h =
    taking_after g (joined (window zero count gs)) (joined gs) n (taking_of_line zero count ks gs n f.1 below h)
taking_of_line (suc before) count (k ∷ ks) (g ∷ gs) n f below h =
    let p = if_neither (n / 4096 / 2 ^ k.q == k.d) (only (n / 4096) before count ks) h in
    taking_of_line before count ks gs n f.1 below p.1 ∙ sym (takes_none k.q k.d g (joined gs) n f.0 below p.0)

-- ---- what is computed

-- an instruction is that of a row at an opcode
abbrev pub agrees : Instr → Row → ℕ → Bool
agrees i r n = same (key i) (key (made r n))

abbrev pub all_below : ℕ → (ℕ → Bool) → Bool
all_below zero p = true
all_below (suc n) p = if p n then all_below n p else false

pub from_all : (n : ℕ) (p : ℕ → Bool) → all_below n p ≡ true → (k : ℕ) → k < n → p k ≡ true
from_all zero p e k h = absurd (omega arith)
from_all (suc n) p e k h =
    let P : Bool → Type 0 = λ b. p n ≡ b → (if b then all_below n p else false) ≡ true → p k ≡ true in
    let split : (b : Bool) → P b =
    (λ b. elim b as P [
      | true ↦ λ here rest.
          elim (cases_eq k n) [
            | inl same ↦ (let s : k ≡ n = same in rw s here)
            | inr other ↦ (let o : k ≡ n → ⊥ = other in from_all n p rest k (omega arith))
          ]
      | false ↦ λ here rest. cc
    ]) in
    split (p n) refl e

-- the same of the rows that take an opcode, of which there is one or none
abbrev pub agrees_with : Instr → List Row → ℕ → Bool
agrees_with i [] n = agrees i no_row n
agrees_with i (r ∷ []) n = agrees i r n
agrees_with i (r ∷ s ∷ rs) n = false

abbrev pub agrees_at : ℕ → (ℕ → Instr) → List Row → ℕ → Bool
agrees_at base f rs k = let n = base + k in agrees_with (f n) (taking_by_bits rs n) n

-- a row can take an opcode whose upper ten bits are h
abbrev pub can_take : Row → ℕ → Bool
can_take r h = bit_and h (mask_bits r.text / 64) == value_bits r.text / 64

abbrev pub narrowed : List Row → ℕ → List Row
narrowed [] h = []
narrowed (r ∷ rs) h = if can_take r h then r ∷ narrowed rs h else narrowed rs h

-- the 64 opcodes of the upper ten bits base / 64 + h: the rows that can take one are sought once
abbrev pub block_agrees : ℕ → (ℕ → Instr) → List Row → ℕ → Bool
block_agrees base f rs h = let few = narrowed rs (base / 64 + h) in all_below 64 (agrees_at (base + 64 * h) f few)

-- all opcodes of a line
abbrev pub line_agrees : ℕ → (ℕ → Instr) → List Row → Bool
line_agrees base f rs = all_below 64 (block_agrees base f rs)

-- ---- what follows

pub both : (a b : Bool) → a && b ≡ true → (a ≡ true) × (b ≡ true)
both true true h = (refl, refl)
both true false h = cc
both false b h = cc

fits_none : (r : Row) (n : ℕ) → can_take r (n / 64) ≡ false → (bit_and n (mask_bits r.text) == value_bits r.text) ≡ false
fits_none r n other =
    let P : Bool → Type 0 = λ b. (bit_and n (mask_bits r.text) == value_bits r.text) ≡ b → b ≡ false in
    let high : bit_and n (mask_bits r.text) / 2 ^ 6 ≡ bit_and (n / 2 ^ 6) (mask_bits r.text / 2 ^ 6) = and_shr n (mask_bits r.text) 6 in
    let split : (b : Bool) → P b =
    (λ b. elim b as P [
      | true ↦ λ here. absurd (eqb-false _ _ other (sym high ∙ ap (λ v. v / 2 ^ 6) (eqb-true _ _ here)))
      | false ↦ λ here. refl
    ]) in
    split (bit_and n (mask_bits r.text) == value_bits r.text) refl

taking_narrowed : (rs : List Row) (n : ℕ) → taking_by_bits (narrowed rs (n / 64)) n ≡ taking_by_bits rs n
taking_narrowed [] n = refl
taking_narrowed (r ∷ rs) n =
    let P : Bool → Type 0 = λ b. can_take r (n / 64) ≡ b
    → taking_by_bits (if b then r ∷ narrowed rs (n / 64) else narrowed rs (n / 64)) n
    ≡ (if in_row_by_bits r n then r ∷ taking_by_bits rs n else taking_by_bits rs n) in
    let split : (b : Bool) → P b =
    (λ b. elim b as P [
      | true ↦ λ here. ap (λ l. if in_row_by_bits r n then r ∷ l else l) (taking_narrowed rs n)
      | false ↦ λ here. rw (fits_none r n here) (taking_narrowed rs n)
    ]) in
    split (can_take r (n / 64)) refl

-- what the code makes of an opcode is what the rows that take it make of it
pub record Agrees (i : Instr) (rs : List Row) (n : ℕ) : Type 0 where
  pub instr : i ≡ made (first rs) n
  pub single : length rs ≤ 1

agrees_sound : (i : Instr) (rs : List Row) (n : ℕ) → agrees_with i rs n ≡ true → Agrees i rs n
agrees_sound i [] n h = record { instr = same_key i (made no_row n) h; single = omega arith }
agrees_sound i (r ∷ []) n h = record { instr = same_key i (made r n) h; single = omega arith }
agrees_sound i (r ∷ s ∷ rs) n h = cc

at_line : (line : ℕ) (f : ℕ → Instr) (rs : List Row) → line_agrees (4096 * line) f rs ≡ true → (n : ℕ) → n / 4096 ≡ line → Agrees (f n) (taking rs n) n
at_line line f rs test n h =
    let block : ℕ = n / 64 - 64 * line in
    let k : ℕ = n % 64 in
    let e : 4096 * line + 64 * block + k ≡ n = omega arith in
    let here : 4096 * line / 64 + block ≡ n / 64 = omega arith in
    let below : block < 64 = omega arith in
    let k_below : k < 64 = omega arith in
    let all : block_agrees (4096 * line) f rs block ≡ true = from_all 64 (block_agrees (4096 * line) f rs) test block below in
    let P : ℕ → Type 0 = λ h. all_below 64 (agrees_at (4096 * line + 64 * block) f (narrowed rs h)) ≡ true in
    let in_block : all_below 64 (agrees_at (4096 * line + 64 * block) f (narrowed rs (n / 64))) ≡ true = subst P here all in
    let one : agrees_at (4096 * line + 64 * block) f (narrowed rs (n / 64)) k ≡ true =
    from_all 64 (agrees_at (4096 * line + 64 * block) f (narrowed rs (n / 64))) in_block k k_below in
    let Q : ℕ → Type 0 = λ m. agrees_with (f m) (taking_by_bits (narrowed rs (n / 64)) m) m ≡ true in
    let by_bits : Agrees (f n) (taking_by_bits (narrowed rs (n / 64)) n) n = agrees_sound _ _ _ (subst Q e one) in
    let R : List Row → Type 0 = λ l. Agrees (f n) l n in
    subst R (taking_narrowed rs n ∙ taking_is rs n) by_bits

-- ---- the clocks of a row are those of its instruction

abbrev pub TimedRow : Row → Type 0
TimedRow r = (f : ℕ → ℕ) → timing (r.makes f) ≡ r.takes f

abbrev pub TimedRows : List Row → Type 0
TimedRows [] = Unit {0}
TimedRows (r ∷ rs) = TimedRow r × TimedRows rs

abbrev pub TimedLists : List (List Row) → Type 0
TimedLists [] = Unit {0}
TimedLists (g ∷ gs) = TimedRows g × TimedLists gs

timed_append : (a b : List Row) → TimedRows a → TimedRows b → TimedRows (a ++ b)
timed_append [] b s t = t
timed_append (r ∷ rs) b s t = (s.0, timed_append rs b s.1 t)

timed_joined : (gs : List (List Row)) → TimedLists gs → TimedRows (joined gs)
timed_joined [] t = tt
timed_joined (g ∷ gs) t = timed_append g (joined gs) t.0 (timed_joined gs t.1)

timed_first : (rs : List Row) (n : ℕ) → TimedRows rs → TimedRow (first (taking rs n))
timed_first [] n t = λ f. refl
timed_first (r ∷ rs) n t =
    let P : Bool → Type 0 = λ b. TimedRow (first (if b then r ∷ taking rs n else taking rs n)) in
    let split : (b : Bool) → P b = (λ b. elim b as P [ true ↦ t.0 | false ↦ timed_first rs n t.1 ]) in
    split (in_row r n)

same_sized : (z : Size) (t : ℕ) → sized z t t ≡ t
same_sized S.Byte t = refl
same_sized S.Word t = refl
same_sized S.Long t = refl

timed_0 : TimedRows rows_0
timed_0 = (
  λ f. refl,
  (
    λ f. refl,
    (
      λ f. refl,
      (
        λ f. refl,
        (
          λ f. refl,
          (
            λ f. refl,
            (
              λ f. refl,
              (
                λ f. refl,
                (
                  λ f. refl,
                  (
                    λ f. refl,
                    (
                      λ f. refl,
                      (
                        λ f. refl,
                        (
                          λ f. refl,
                          (
                            λ f. refl,
                            (
                              λ f. refl,
                              (
                                λ f. refl,
                                (
                                  λ f. refl,
                                  (
                                    λ f. refl,
                                    (
                                      λ f. refl,
                                      (
                                        λ f. refl,
                                        (λ f. refl, tt),
                                      ),
                                    ),
                                  ),
                                ),
                              ),
                            ),
                          ),
                        ),
                      ),
                    ),
                  ),
                ),
              ),
            ),
          ),
        ),
      ),
    ),
  ),
)

timed_move : TimedRows rows_move
timed_move = (
  λ f. ap (λ t. Always (t + ea (zz f) (e f) + move_dest (zz f) (dest f))) (same_sized (zz f) 4),
  (λ f. ap (λ t. Always (t + ea (z f) (e f))) (same_sized (z f) 4), tt),
)

timed_4 : TimedRows rows_4
timed_4 = (
  λ f. refl,
  (
    λ f. refl,
    (
      λ f. refl,
      (
        λ f. refl,
        (
          λ f. refl,
          (
            λ f. refl,
            (
              λ f. refl,
              (
                λ f. refl,
                (
                  λ f. refl,
                  (
                    λ f. refl,
                    (
                      λ f. refl,
                      (
                        λ f. refl,
                        (
                          λ f. refl,
                          (
                            λ f. ap (λ t. Always (t + ea (ss f) (e f))) (same_sized (ss f) 4),
                            (
                              λ f. refl,
                              (
                                λ f. refl,
                                (
                                  λ f. refl,
                                  (
                                    λ f. refl,
                                    (
                                      λ f. refl,
                                      (
                                        λ f. refl,
                                        (
                                          λ f. refl,
                                          (
                                            λ f. refl,
                                            (
                                              λ f. refl,
                                              (
                                                λ f. refl,
                                                (
                                                  λ f. refl,
                                                  (λ f. refl, (λ f. refl, (λ f. refl, (λ f. refl, (λ f. refl, (λ f. refl, tt)))))),
                                                ),
                                              ),
                                            ),
                                          ),
                                        ),
                                      ),
                                    ),
                                  ),
                                ),
                              ),
                            ),
                          ),
                        ),
                      ),
                    ),
                  ),
                ),
              ),
            ),
          ),
        ),
      ),
    ),
  ),
)

timed_5 : TimedRows rows_5
timed_5 = (λ f. refl, (λ f. refl, (λ f. refl, (λ f. refl, tt))))

timed_6 : TimedRows rows_6
timed_6 = (λ f. refl, tt)

timed_7 : TimedRows rows_7
timed_7 = (λ f. refl, tt)

timed_8 : TimedRows rows_8
timed_8 = (λ f. refl, (λ f. refl, (λ f. refl, (λ f. refl, (λ f. refl, tt)))))

timed_9 : TimedRows rows_9
timed_9 = (λ f. refl, (λ f. refl, (λ f. refl, (λ f. refl, tt))))

timed_A : TimedRows rows_A
timed_A = (λ f. refl, tt)

timed_B : TimedRows rows_B
timed_B = (λ f. refl, (λ f. refl, (λ f. refl, (λ f. ap (λ t. Always (t + ea (s f) (e f))) (same_sized (s f) 6), tt))))

timed_C : TimedRows rows_C
timed_C = (λ f. refl, (λ f. refl, (λ f. refl, (λ f. refl, (λ f. refl, (λ f. refl, (λ f. refl, (λ f. refl, tt))))))))

timed_D : TimedRows rows_D
timed_D = (λ f. refl, (λ f. refl, (λ f. refl, (λ f. refl, tt))))

timed_E : TimedRows rows_E
timed_E = (λ f. refl, (λ f. refl, tt))

timed_F : TimedRows rows_F
timed_F = (λ f. refl, tt)

rows_timed : TimedRows rows
rows_timed =
    timed_joined groups (
      timed_0,
      (
        timed_move,
        (
          timed_4,
          (
            timed_5,
            (
              timed_6,
              (
                timed_7,
                (
                  timed_8,
                  (
                    timed_9,
                    (timed_A, (timed_B, (timed_C, (timed_D, (timed_E, (timed_F, tt)))))),
                  ),
                ),
              ),
            ),
          ),
        ),
      ),
    )

-- ---- the table

abbrev pub first_are : ℕ → ℕ → Digits
first_are q d = record { q = q; d = d }

abbrev pub table_digits : List Digits
table_digits =
    first_are 0 0 ∷ first_are 2 0 ∷ first_are 0 4 ∷ first_are 0 5 ∷ first_are 0 6 ∷ first_are 0 7 ∷ first_are 0 8
    ∷ first_are 0 9 ∷ first_are 0 10 ∷ first_are 0 11 ∷ first_are 0 12 ∷ first_are 0 13 ∷ first_are 0 14 ∷ first_are 0 15 ∷ []

fix_0 : all_fix 0 0 rows_0 ≡ true
fix_0 = refl

fix_move : all_fix 2 0 rows_move ≡ true
fix_move = refl

fix_4 : all_fix 0 4 rows_4 ≡ true
fix_4 = refl

fix_5 : all_fix 0 5 rows_5 ≡ true
fix_5 = refl

fix_6 : all_fix 0 6 rows_6 ≡ true
fix_6 = refl

fix_7 : all_fix 0 7 rows_7 ≡ true
fix_7 = refl

fix_8 : all_fix 0 8 rows_8 ≡ true
fix_8 = refl

fix_9 : all_fix 0 9 rows_9 ≡ true
fix_9 = refl

fix_A : all_fix 0 10 rows_A ≡ true
fix_A = refl

fix_B : all_fix 0 11 rows_B ≡ true
fix_B = refl

fix_C : all_fix 0 12 rows_C ≡ true
fix_C = refl

fix_D : all_fix 0 13 rows_D ≡ true
fix_D = refl

fix_E : all_fix 0 14 rows_E ≡ true
fix_E = refl

fix_F : all_fix 0 15 rows_F ≡ true
fix_F = refl

table_fixed : Fixed table_digits groups
table_fixed =
    (fix_0, (fix_move, (fix_4, (fix_5, (fix_6, (fix_7, (fix_8, (fix_9, (fix_A, (fix_B, (fix_C, (fix_D, (fix_E, (fix_F, tt))))))))))))))

-- what the code makes of an opcode is the table's instruction, with the table's clocks, and by one row at most
pub record Whole (i : Instr) (n : ℕ) : Type 0 where
  pub instr : i ≡ decode_of n
  pub clocks : clocks_at n ≡ timing i
  pub one_row : rows_at n ≤ 1

pub whole : (line : ℕ) (f : ℕ → Instr) (before count : ℕ) → line < 16 → only line before count table_digits ≡ true
    → line_agrees (4096 * line) f (joined (window before count groups)) ≡ true → (n : ℕ) → n / 4096 ≡ line → Whole (f n) n
unfolding decode_of clocks_at rows_at
whole line f before count small alone test n h =
    let below : n < 65536 = omega arith in
    let here : Agrees (f n) (taking (joined (window before count groups)) n) n = at_line line f (joined (window before count groups)) test n h in
    let P : ℕ → Type 0 = λ l. only l before count table_digits ≡ true in
    let Q : List Row → Type 0 = λ l. Agrees (f n) l n in
    let there : Agrees (f n) (taking rows n) n = subst Q (taking_of_line before count table_digits groups n table_fixed below (subst P (sym h) alone)) here in
    let row : Row = first (taking rows n) in
    let clocks : timing (f n) ≡ taken row n = ap timing there.instr ∙ timed_first rows n rows_timed (λ c. field c row.text n) in
    record { instr = there.instr; clocks = sym clocks; one_row = there.single }
