-- The outcomes of multiplication and division: words to a long, and a long by a word, at any size.
use Rattle.std.specs.Prelude.{ℕ, ◌+◌, ◌*◌, ◌/◌, ◌%◌, true, false, if◌then◌else◌, ◌==◌, nat_lt, ◌*ℤ◌, int_div, int_rem}
use Rattle.m68k_opcodes.specs.declared.operand.Size.{Size}
use Rattle.m68k_opcodes.specs.declared.operand.Size.TheVariants.{Word, Long}
use Rattle.m68k_decode.specs.declared.outcome.Flags.{Flags}
use Rattle.m68k_decode.specs.declared.outcome.Outcome.{Outcome}
use Rattle.m68k_decode.specs.Results.{low, is_negative, signed, is_signed, wrapped, outcome, plain}

abbrev pub mulu_of : Size → ℕ → ℕ → Flags → Outcome
mulu_of s a b f = plain Long (low Word a * low Word b) f

abbrev pub muls_of : Size → ℕ → ℕ → Flags → Outcome
muls_of s a b f = plain Long (wrapped Long (signed Word (low Word a) *ℤ signed Word (low Word b))) f

-- the quotient in the low word and the remainder in the high word; N and Z are the quotient's
abbrev pub divided : (quotient remainder : ℕ) → Flags → Outcome
divided quotient remainder f =
    outcome (remainder * 65536 + quotient) f.x (is_negative Word quotient) (quotient == 0) false false

-- a quotient that is no word: V is set, C is clear, all else stays
abbrev pub not_divided : ℕ → Flags → Outcome
not_divided a f = outcome (low Long a) f.x f.n f.z true false

unfoldable pub divu_of : Size → ℕ → ℕ → Flags → Outcome
divu_of s a b f =
    let quotient = low Long a / low Word b in
    if nat_lt quotient 65536 then divided quotient (low Long a % low Word b) f else not_divided a f

-- DIVS: the quotient is rounded toward 0, so the remainder has the dividend's sign
unfoldable pub divs_of : Size → ℕ → ℕ → Flags → Outcome
divs_of s a b f =
    let dividend = signed Long (low Long a) in
    let divisor = signed Word (low Word b) in
    let quotient = int_div dividend divisor in
    if is_signed Word quotient then divided (wrapped Word quotient) (wrapped Word (int_rem dividend divisor)) f else not_divided a f
