-- A number that is written is read again, and a decimal text that is read is the number's own.
use Rattle.std.proofs.Common.{◌≡◌, ℕ, zero, suc, ◌/◌, ◌%◌, ◌^◌, ◌<◌, ◌≤◌, Bool, true, false, ◌&&◌, ◌||◌, ◌==◌, not, List, []}
use Rattle.std.proofs.Common.{◌∷◌, length, get_or, refl, sym, ap, ◌∙◌, arith, Some, None, decimal, nat_lt, if◌then◌else◌}
use Rattle.std.proofs.lemmas.Bool.Decides.{nat_tests}
use borrow.Author.Tests.{eqb-true, ltb-true, eq-eqb}
use Rattle.std.proofs.lemmas.Fmt.{first_decimal, decimal_nonempty, decimal-digits_value, decimal_digit, digits_decimal, digits_value-decimal}
use Rattle.std.proofs.lemmas.Str.Parse.{IsDigitsTest, numerals_by_value}
use Rattle.std.specs.Str.Parse.{digits_value}
use Rattle.std.specs.Char.{digit_value}
use Rattle.std.specs.Int.{IsInRange}
use Rattle.ocs_io.specs.Numbers.{all_bytes, is_digit, is_decimal, is_lower_hex, dec_of, hex_of, hex_digit, hex_text}

tells_digits : IsDigitsTest (λ bytes. all_bytes is_digit bytes ≡ true)
tells_digits = record { empty = refl; parts = parts; more = more }
  where
    parts : (c : ℕ) (cs : List ℕ) → all_bytes is_digit (c ∷ cs) ≡ true → IsInRange 48 57 c × (all_bytes is_digit cs ≡ true)
    parts c cs all = grind (arith, nat_tests)

    more : (c : ℕ) (cs : List ℕ) → IsInRange 48 57 c → all_bytes is_digit cs ≡ true → all_bytes is_digit (c ∷ cs) ≡ true
    more c cs range all = grind (arith, nat_tests)

zero_first : (n : ℕ) → n < 2 ^ 64 → get_or (decimal n) 0 0 ≡ 48 → length (decimal n) ≡ 1
zero_first zero fits leads = ap length (decimal_digit 0 (omega arith))
zero_first (suc n) fits leads = absurd (omega (arith, first_decimal (suc n) (omega arith) fits))

is_decimal-digits : (bytes : List ℕ) → 0 < length bytes → all_bytes is_digit bytes ≡ true → (get_or bytes 0 0 ≡ 48 → length bytes ≡ 1) → is_decimal bytes ≡ true
is_decimal-digits [] some all leads = absurd (omega arith)
is_decimal-digits (b ∷ bytes) some all leads = parted (is_digit b) (all_bytes is_digit bytes) (b == 48) (length bytes == 0) all
    (λ first. le_eq (length bytes) (leads (eqb-true b 48 first)))
  where
    parted : (digit digits leading only : Bool) → (digit && digits) ≡ true → (leading ≡ true → only ≡ true) → (digit && digits && (not leading || only)) ≡ true
    parted true true true only all leads = leads refl
    parted true true false only all leads = refl
    parted true false leading only all leads = all
    parted false digits leading only all leads = all

    le_eq : (k : ℕ) → suc k ≡ 1 → (k == 0) ≡ true
    le_eq zero e = refl
    le_eq (suc k) e = absurd (omega arith)

is_decimal-decimal : (n : ℕ) → n < 2 ^ 64 → is_decimal (decimal n) ≡ true
is_decimal-decimal n fits = is_decimal-digits (decimal n) (decimal_nonempty n fits) (digits_decimal (numerals_by_value _ tells_digits) n fits)
    (zero_first n fits)

-- a number that is written in decimal is read again
pub dec_of-decimal : (n : ℕ) → n < 2 ^ 64 → dec_of (decimal n) ≡ Some n
unfolding dec_of
dec_of-decimal n fits =
    let plain = is_decimal-decimal n fits in
    let same = digits_value-decimal (numerals_by_value _ tells_digits) n fits in
    grind (arith, nat_tests)

both : (a b : Bool) → (a && b) ≡ true → (a ≡ true) × (b ≡ true)
both true b h = (refl, h)
both false b h = (h, absurd (cc h))

chosen : (b : Bool) (v n : ℕ) → (if b then Some v else None) ≡ Some n → (b ≡ true) × (v ≡ n)
chosen true v n h = (refl, cc)
chosen false v n h = (absurd (cc h), absurd (cc h))

record IsPlain (bytes : List ℕ) : Type 0 where
  some : 0 < length bytes
  digits : all_bytes is_digit bytes ≡ true
  leads : get_or bytes 0 0 ≡ 48 → length bytes ≡ 1

plain : (bytes : List ℕ) → is_decimal bytes ≡ true → IsPlain bytes
plain [] h = absurd (cc h)
plain (b ∷ bytes) h =
    let outer = both (is_digit b && all_bytes is_digit bytes) (not (b == 48) || (length bytes == 0)) h in
    record { some = omega arith; digits = outer.0; leads = λ e. only (b == 48) (length bytes) (eq-eqb b 48 e) outer.1 }
  where
    only : (leading : Bool) (k : ℕ) → leading ≡ true → (not leading || (k == 0)) ≡ true → suc k ≡ 1
    only true k e h = omega (arith, eqb-true k 0 h)
    only false k e h = absurd (cc e)

-- a decimal text that is read is the one that is written
pub decimal-dec_of : (bytes : List ℕ) (n : ℕ) → dec_of bytes ≡ Some n → bytes ≡ decimal n
unfolding dec_of
decimal-dec_of bytes n read =
    let is = chosen (is_decimal bytes && nat_lt (digits_value 10 bytes) (2 ^ 64)) (digits_value 10 bytes) n read in
    let tests = both (is_decimal bytes) (nat_lt (digits_value 10 bytes) (2 ^ 64)) is.0 in
    let p = plain bytes tests.0 in
    sym (decimal-digits_value (numerals_by_value _ tells_digits) bytes p.digits p.some p.leads (ltb-true (digits_value 10 bytes) (2 ^ 64) tests.1))
    ∙ ap decimal is.1

digit_value-hex_digit : (d : ℕ) → d < 16 → digit_value (hex_digit d) ≡ d
digit_value-hex_digit d small = grind (arith, nat_tests)

is_lower_hex-hex_digit : (d : ℕ) → d < 16 → is_lower_hex (hex_digit d) ≡ true
is_lower_hex-hex_digit d small = grind (arith, nat_tests)

all_lower-hex_text : (digits n : ℕ) → all_bytes is_lower_hex (hex_text digits n) ≡ true
unfolding hex_text
all_lower-hex_text zero n = refl
all_lower-hex_text (suc k) n = ap (λ t. t && all_bytes is_lower_hex (hex_text k n)) (is_lower_hex-hex_digit (n / 16 ^ k % 16) (omega arith))
    ∙ all_lower-hex_text k n

length-hex_text : (digits n : ℕ) → length (hex_text digits n) ≡ digits
unfolding hex_text
length-hex_text zero n = refl
length-hex_text (suc k) n = omega (arith, length-hex_text k n)

value-hex_text : (digits n : ℕ) → digits ≤ 4 → n < 16 ^ digits → digits_value 16 (hex_text digits n) ≡ n
unfolding hex_text
value-hex_text zero n many fits = omega arith
value-hex_text (suc zero) n many fits = omega (arith, digit_value-hex_digit (n / 1 % 16) (omega arith))
value-hex_text (suc (suc zero)) n many fits = omega (arith, digit_value-hex_digit (n / 1 % 16) (omega arith), digit_value-hex_digit (n / 16 % 16) (omega arith))
value-hex_text (suc (suc (suc zero))) n many fits = omega (
  arith,
  digit_value-hex_digit (n / 1 % 16) (omega arith),
  digit_value-hex_digit (n / 16 % 16) (omega arith),
  digit_value-hex_digit (n / 256 % 16) (omega arith),
)
value-hex_text (suc (suc (suc (suc zero)))) n many fits =
    omega (
      arith,
      digit_value-hex_digit (n / 1 % 16) (omega arith),
      digit_value-hex_digit (n / 16 % 16) (omega arith),
      digit_value-hex_digit (n / 256 % 16) (omega arith),
      digit_value-hex_digit (n / 4096 % 16) (omega arith),
    )
value-hex_text (suc (suc (suc (suc (suc more))))) n many fits = absurd (omega arith)

-- a number that is written in hexadecimal digits is read again
pub hex_of-hex_text : (digits n : ℕ) → 1 ≤ digits → digits ≤ 4 → n < 16 ^ digits → hex_of (hex_text digits n) ≡ Some n
unfolding hex_of
hex_of-hex_text digits n few many fits =
    let lower = all_lower-hex_text digits n in
    let size = length-hex_text digits n in
    let value = value-hex_text digits n many fits in
    grind (arith, nat_tests)
