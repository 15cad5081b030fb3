-- Reading a text of digits from the left, and what is read of a text that was written.
use Rattle.std.proofs.Common.{◌≡◌, ℕ, zero, suc, ◌+◌, ◌-◌, ◌*◌, ◌/◌, ◌%◌, ◌^◌, ◌<◌, ◌≤◌, Bool, true, ◌&&◌, List, []}
use Rattle.std.proofs.Common.{sym, ◌++◌, ◌∷◌, length, get_or, take, drop, ap, ◌∙◌, arith, nat_lt, Some, None, if◌then◌else◌}
use Rattle.std.proofs.lemmas.List.{drop_all, drop_more}
use Rattle.std.proofs.lemmas.Bool.Decides.{nat_tests}
use Rattle.std.proofs.lemmas.Fmt.{decimal_digit, decimal_step}
use Rattle.std.specs.Fmt.{decimal}
use Rattle.std.specs.Str.Parse.{digits_value, digits_value_after}
use Rattle.std.specs.Char.{digit_value}
use Rattle.ocs_io.specs.Numbers.{all_bytes, is_digit, hex_digit, hex_text}

pub all_bytes-more : (test : ℕ → Bool) (bytes : List ℕ) (i : ℕ) → i < length bytes
    → all_bytes test (drop i bytes) ≡ (test (get_or bytes i 0) && all_bytes test (drop (i + 1) bytes))
all_bytes-more test bytes i h = ap (all_bytes test) (drop_more bytes i 0 h)

pub all_bytes-end : (test : ℕ → Bool) (bytes : List ℕ) (i : ℕ) → length bytes ≤ i → all_bytes test (drop i bytes) ≡ true
all_bytes-end test bytes i h = ap (all_bytes test) (drop_all i bytes h)

pub value-more : (radix value : ℕ) (bytes : List ℕ) (i : ℕ) → i < length bytes
    → digits_value_after radix value (drop i bytes) ≡ digits_value_after radix (value * radix + digit_value (get_or bytes i 0)) (drop (i + 1) bytes)
value-more radix value bytes i h = ap (digits_value_after radix value) (drop_more bytes i 0 h)

pub value-end : (radix value : ℕ) (bytes : List ℕ) (i : ℕ) → length bytes ≤ i → digits_value_after radix value (drop i bytes) ≡ value
value-end radix value bytes i h = ap (digits_value_after radix value) (drop_all i bytes h)

pub value-grows : (value : ℕ) (bytes : List ℕ) → value ≤ digits_value_after 10 value bytes
value-grows value [] = omega arith
value-grows value (b ∷ bytes) = omega (arith, value-grows (value * 10 + digit_value b) bytes)

pub ruleset reading = (all_bytes-more, all_bytes-end, value-more, value-end, value-grows)

-- the four digits of a number, less those that are not wanted
pub last_digits : (digits n a b c d : ℕ) → 2 ≤ digits → digits ≤ 4 → n < 65536 → a ≡ hex_digit (n / 4096) → b ≡ hex_digit (n / 256 % 16)
    → c ≡ hex_digit (n / 16 % 16) → d ≡ hex_digit (n % 16)
    → take (4 - (4 - digits)) (drop (4 - digits) (a ∷ b ∷ c ∷ d ∷ [])) ≡ hex_text digits n
unfolding hex_text
last_digits zero n a b c d few many fits first second third fourth = absurd (omega arith)
last_digits (suc zero) n a b c d few many fits first second third fourth = absurd (omega arith)
last_digits (suc (suc zero)) n a b c d few many fits first second third fourth =
    let low : n % 16 ≡ n / 1 % 16 = omega arith in
    let last : d ≡ hex_digit (n / 1 % 16) = fourth ∙ ap hex_digit low in
    λ i. third i ∷ last i ∷ []
last_digits (suc (suc (suc zero))) n a b c d few many fits first second third fourth =
    let low : n % 16 ≡ n / 1 % 16 = omega arith in
    let last : d ≡ hex_digit (n / 1 % 16) = fourth ∙ ap hex_digit low in
    λ i. second i ∷ third i ∷ last i ∷ []
last_digits (suc (suc (suc (suc zero)))) n a b c d few many fits first second third fourth =
    let high : n / 4096 ≡ n / 4096 % 16 = omega arith in
    let front : a ≡ hex_digit (n / 4096 % 16) = first ∙ ap hex_digit high in
    let low : n % 16 ≡ n / 1 % 16 = omega arith in
    let last : d ≡ hex_digit (n / 1 % 16) = fourth ∙ ap hex_digit low in
    λ i. front i ∷ second i ∷ third i ∷ last i ∷ []
last_digits (suc (suc (suc (suc (suc more))))) n a b c d few many fits first second third fourth = absurd (omega arith)

-- what is answered where a digit more cannot be taken, and at the end
pub unread_digits : (value : ℕ) (bytes : List ℕ) (i : ℕ) → i < length bytes → digits_value_after 10 value (drop i bytes) ≡ digits_value 10 bytes
    → all_bytes is_digit (drop i bytes) ≡ all_bytes is_digit bytes
    → None ≡ (if is_digit (get_or bytes i 0) && nat_lt (value * 10 + digit_value (get_or bytes i 0)) (2 ^ 64)
    then Some (value * 10 + digit_value (get_or bytes i 0)) else None)
    → None ≡ (if all_bytes is_digit bytes && nat_lt (digits_value 10 bytes) (2 ^ 64) then Some (digits_value 10 bytes) else None)
unread_digits value bytes i h same good stops =
    let more = value-more 10 value bytes i h in
    let tests = all_bytes-more is_digit bytes i h in
    let grows = value-grows (value * 10 + digit_value (get_or bytes i 0)) (drop (i + 1) bytes) in
    grind (arith, nat_tests)

pub read_digits : (value : ℕ) (bytes : List ℕ) (i : ℕ) → length bytes ≤ i → value < 2 ^ 64 → digits_value_after 10 value (drop i bytes) ≡ digits_value 10 bytes
    → all_bytes is_digit (drop i bytes) ≡ all_bytes is_digit bytes
    → Some value ≡ (if all_bytes is_digit bytes && nat_lt (digits_value 10 bytes) (2 ^ 64) then Some (digits_value 10 bytes) else None)
read_digits value bytes i h fits same good =
    let is = value-end 10 value bytes i h in
    let tests = all_bytes-end is_digit bytes i h in
    grind (arith, nat_tests)

pub hex_room : (i value digit n : ℕ) → i < n → n ≤ 4 → value < 16 ^ i → digit < 16 → value * 16 + digit < 65536
hex_room zero value digit n below few small low = omega arith
hex_room (suc zero) value digit n below few small low = omega arith
hex_room (suc (suc zero)) value digit n below few small low = omega arith
hex_room (suc (suc (suc zero))) value digit n below few small low = omega arith
hex_room (suc (suc (suc (suc i)))) value digit n below few small low = absurd (omega arith)

-- numbers of one to three decimal digits
one_digit : (n : ℕ) → n < 10 → decimal n ≡ (48 + n) ∷ []
one_digit n few = decimal_digit n few

two_digits : (n : ℕ) → 10 ≤ n → n < 100 → decimal n ≡ (48 + n / 10) ∷ (48 + n % 10) ∷ []
two_digits n some few =
    decimal_step n some (omega (arith, few)) ∙ ap (λ (text : List ℕ). text ++ (48 + n % 10) ∷ []) (decimal_digit (n / 10) (omega (arith, few)))

three_digits : (n : ℕ) → 100 ≤ n → n < 1000 → decimal n ≡ (48 + n / 100) ∷ (48 + n / 10 % 10) ∷ (48 + n % 10) ∷ []
three_digits n some few =
    let high : n / 10 / 10 ≡ n / 100 = omega arith in
    decimal_step n (omega (arith, some)) (omega (arith, few))
    ∙ ap (λ (text : List ℕ). text ++ (48 + n % 10) ∷ []) (two_digits (n / 10) (omega (arith, some)) (omega (arith, few)))
    ∙ ap (λ (d : ℕ). (48 + d) ∷ (48 + n / 10 % 10) ∷ (48 + n % 10) ∷ []) high

pub written_one : (n a : ℕ) → n < 10 → a ≡ 48 + n % 10 → decimal n ≡ a ∷ []
written_one n a few is = one_digit n few ∙ ap (λ d. d ∷ []) (omega (arith, few, is))

pub written_two : (n a b : ℕ) → 10 ≤ n → n < 100 → a ≡ 48 + n / 10 % 10 → b ≡ 48 + n % 10 → decimal n ≡ a ∷ b ∷ []
written_two n a b some few first last =
    let high : 48 + n / 10 ≡ a = omega (arith, few, first) in
    two_digits n some few ∙ (λ i. high i ∷ sym last i ∷ [])

pub written_three : (n a b c : ℕ) → 100 ≤ n → n < 1000 → a ≡ 48 + n / 100 → b ≡ 48 + n / 10 % 10 → c ≡ 48 + n % 10 → decimal n ≡ a ∷ b ∷ c ∷ []
written_three n a b c some few first second third =
    three_digits n some few ∙ (λ i. sym first i ∷ sym second i ∷ sym third i ∷ [])

pub ruleset short_decimals = (written_one, written_two, written_three)
