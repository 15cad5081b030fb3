-- The clock and what stands behind it in a line of the trace.
use Rattle.std.proofs.Common.{◌≡◌, ℕ, zero, suc, ◌+◌, ◌-◌, ◌/◌, ◌%◌, ◌<◌, ◌≤◌, List, [], ◌∷◌, ◌++◌, length, take, drop, refl, ap, sym, ◌∙◌, append_assoc, arith}
use Rattle.std.proofs.lemmas.List.{take_all, take-append-le, length-append}
use Rattle.std.proofs.Math.Seq.{take-append_seam, take-length}
use Rattle.std.specs.Prelude.{codes, decimal}
use Rattle.ocs_base.specs.declared.beam.Beam.{Beam}
use Rattle.ocs_base.specs.declared.reg.Reg.{Reg}
use Rattle.serial_model.specs.declared.trace.Source.{Source}
use Rattle.serial_model.specs.declared.trace.TraceLine.TheVariants.{Wrote, Peeked, Taken}
use Rattle.serial_model.specs.TraceText.{character_of, offset_text, word_text, letter_of, place_text, line_text}
use Rattle.out_files.specs.code.Lines.{start_text, three_digits, access_text}
use Rattle.ocs_io.proofs.NumberLaws.{written_one, written_two, written_three}

-- a number of up to three digits is its last three digits, less the zeros in front of it
pub without_two : (n : ℕ) → n < 10 → drop 2 (three_digits n) ≡ decimal n
without_two n few = sym (written_one n (48 + n % 10) few refl)

pub without_one : (n : ℕ) → 10 ≤ n → n < 100 → drop 1 (three_digits n) ≡ decimal n
without_one n some few = sym (written_two n (48 + n / 10 % 10) (48 + n % 10) some few refl refl)

pub without_none : (n : ℕ) → 100 ≤ n → n < 1000 → three_digits n ≡ decimal n
without_none n some few =
    sym (written_three n (48 + n / 100 % 10) (48 + n / 10 % 10) (48 + n % 10) some few (omega (arith, few)) refl refl)

pub ruleset short_clock = (without_two, without_one, without_none)

-- three digits and what stands behind them, less the first of the digits
line_from : (n x y z : ℕ) (behind : List ℕ) → n ≤ 2
    → take (length behind + 3 - n) (drop n (x ∷ y ∷ z ∷ behind)) ≡ drop n (x ∷ y ∷ z ∷ []) ++ behind
line_from zero x y z behind few = take_all (length behind + 3 - 0) (x ∷ y ∷ z ∷ behind) (omega arith)
line_from (suc zero) x y z behind few = take_all (length behind + 3 - 1) (y ∷ z ∷ behind) (omega arith)
line_from (suc (suc zero)) x y z behind few = take_all (length behind + 3 - 2) (z ∷ behind) (omega arith)
line_from (suc (suc (suc n))) x y z behind few = absurd (omega arith)

pub clock_first : (n h x y z : ℕ) (behind text : List ℕ) → n ≤ 2 → drop n (three_digits h) ≡ decimal h → x ≡ 48 + h / 100 % 10
    → y ≡ 48 + h / 10 % 10 → z ≡ 48 + h % 10 → behind ≡ text → take (length behind + 3 - n) (drop n (x ∷ y ∷ z ∷ behind)) ≡ decimal h ++ text
clock_first n h x y z behind text few clock first second third is =
    line_from n x y z behind few ∙ ap (λ (digits : List ℕ). drop n digits ++ behind) (λ i. first i ∷ second i ∷ third i ∷ [])
    ∙ (λ i. clock i ++ is i)

pub access_bytes : (kind offset raw word : ℕ) (by : Source) {a b c d e f g l : ℕ} → raw ≡ offset → a ≡ character_of (raw / 256 % 16)
    → b ≡ character_of (raw / 16 % 16) → c ≡ character_of (raw % 16) → d ≡ character_of (word / 4096 % 16) → e ≡ character_of (word / 256 % 16)
    → f ≡ character_of (word / 16 % 16) → g ≡ character_of (word % 16) → l ∷ [] ≡ letter_of by
    → 32 ∷ kind ∷ 32 ∷ a ∷ b ∷ c ∷ 32 ∷ d ∷ e ∷ f ∷ g ∷ 32 ∷ l ∷ 10 ∷ [] ≡ access_text kind offset word by
access_bytes kind offset raw word by same first second third fourth fifth sixth seventh last =
    let high = first ∙ ap (λ n. character_of (n / 256 % 16)) same in
    let middle = second ∙ ap (λ n. character_of (n / 16 % 16)) same in
    let low = third ∙ ap (λ n. character_of (n % 16)) same in
    λ i. 32 ∷ kind ∷ 32 ∷ high i ∷ middle i ∷ low i ∷ 32 ∷ fourth i ∷ fifth i ∷ sixth i ∷ seventh i ∷ 32 ∷ (last i ++ codes "\n")

-- what follows a place, taken together
gather : (place a b c d e f g : List ℕ) → place ++ a ++ b ++ c ++ d ++ e ++ f ++ g ≡ place ++ (a ++ b ++ c ++ d ++ e ++ f ++ g)
gather place a b c d e f g =
    ap (λ (t : List ℕ). t ++ c ++ d ++ e ++ f ++ g) (append_assoc place a b)
    ∙ ap (λ (t : List ℕ). t ++ d ++ e ++ f ++ g) (append_assoc place (a ++ b) c)
    ∙ ap (λ (t : List ℕ). t ++ e ++ f ++ g) (append_assoc place (a ++ b ++ c) d)
    ∙ ap (λ (t : List ℕ). t ++ f ++ g) (append_assoc place (a ++ b ++ c ++ d) e)
    ∙ ap (λ (t : List ℕ). t ++ g) (append_assoc place (a ++ b ++ c ++ d ++ e) f)
    ∙ append_assoc place (a ++ b ++ c ++ d ++ e ++ f) g

-- the start of a line, and the clock with what stands behind it
line_of_access : (old first last kind offset word letter : List ℕ) (b : Beam) → first ≡ old ++ start_text b.frame b.v
    → last ≡ first ++ (decimal b.h ++ (kind ++ offset ++ codes " " ++ word ++ codes " " ++ letter ++ codes "\n"))
    → last ≡ old ++ (place_text b ++ kind ++ offset ++ codes " " ++ word ++ codes " " ++ letter ++ codes "\n")
unfolding place_text
line_of_access old first last kind offset word letter b begun ended =
    let start = start_text b.frame b.v in
    let place = start ++ decimal b.h in
    let behind = kind ++ offset ++ codes " " ++ word ++ codes " " ++ letter ++ codes "\n" in
    ended ∙ ap (λ (t : List ℕ). t ++ (decimal b.h ++ behind)) begun ∙ append_assoc old start (decimal b.h ++ behind)
    ∙ ap (λ (t : List ℕ). old ++ t)
    (sym (append_assoc start (decimal b.h) behind) ∙ sym (gather place kind offset (codes " ") word (codes " ") letter (codes "\n")))

pub wrote : (old first last : List ℕ) (b : Beam) (reg : Reg) (word : ℕ) (by : Source) → first ≡ old ++ start_text b.frame b.v
    → last ≡ first ++ (decimal b.h ++ access_text 87 reg.offset word by) → last ≡ old ++ line_text (Wrote b reg word by)
unfolding line_text
wrote old first last b reg word by = line_of_access old first last (codes " W ") (offset_text reg.offset) (word_text word) (letter_of by) b

pub peeked : (old first last : List ℕ) (b : Beam) (reg : Reg) (word : ℕ) (by : Source) → first ≡ old ++ start_text b.frame b.v
    → last ≡ first ++ (decimal b.h ++ access_text 82 reg.offset word by) → last ≡ old ++ line_text (Peeked b reg word by)
unfolding line_text
peeked old first last b reg word by = line_of_access old first last (codes " R ") (offset_text reg.offset) (word_text word) (letter_of by) b

pub taken : (old first second third fourth last : List ℕ) (b : Beam) (level : ℕ) → first ≡ old ++ start_text b.frame b.v
    → second ≡ first ++ decimal b.h → third ≡ second ++ codes " I " → fourth ≡ third ++ decimal level → last ≡ fourth ++ codes "\n"
    → last ≡ old ++ line_text (Taken b level)
unfolding line_text place_text
taken old first second third fourth last b level begun clock kind number ended =
    let start = start_text b.frame b.v in
    let second_is = clock ∙ ap (λ (t : List ℕ). t ++ decimal b.h) begun ∙ append_assoc old start (decimal b.h) in
    let third_is = kind ∙ ap (λ (t : List ℕ). t ++ codes " I ") second_is ∙ append_assoc old (start ++ decimal b.h) (codes " I ") in
    let fourth_is =
    number ∙ ap (λ (t : List ℕ). t ++ decimal level) third_is ∙ append_assoc old (start ++ decimal b.h ++ codes " I ") (decimal level) in
    ended ∙ ap (λ (t : List ℕ). t ++ codes "\n") fourth_is
    ∙ append_assoc old (start ++ decimal b.h ++ codes " I " ++ decimal level) (codes "\n")

-- what a refusal leaves begins with the text before
pub begins_so : (old more last : List ℕ) → last ≡ old ++ more → take (length old) last ≡ old
begins_so old more last is = ap (λ (t : List ℕ). take (length old) t) is ∙ take-append_seam old more

pub stays_so : (old last : List ℕ) → last ≡ old → take (length old) last ≡ old
stays_so old last is = ap (λ (t : List ℕ). take (length old) t) is ∙ take-length old

pub begins_on : (old first last more : List ℕ) → take (length old) first ≡ old → last ≡ first ++ more → length old ≤ length first
    → (take (length old) last ≡ old) × (length old ≤ length last)
begins_on old first last more begins is within = (
  ap (λ (t : List ℕ). take (length old) t) is ∙ take-append-le (length old) first more within ∙ begins,
  omega (arith, within, ap length is, length-append first more),
)

pub begins_first : (old more last : List ℕ) → last ≡ old ++ more → (take (length old) last ≡ old) × (length old ≤ length last)
begins_first old more last is = (begins_so old more last is, omega (arith, ap length is, length-append old more))

pub begins_still : (old first last : List ℕ) → take (length old) first ≡ old → last ≡ first → take (length old) last ≡ old
begins_still old first last begins is = ap (λ (t : List ℕ). take (length old) t) is ∙ begins
