-- The outcomes of the decimal operations, on bytes of two decimal digits at any size.
use Rattle.std.specs.Prelude.{ℕ, ◌+◌, ◌%◌, Bool, ◌&&◌, if◌then◌else◌, ◌==◌, nat_lt, ℤ, pos, ◌-ℤ◌, int_lt}
use Rattle.m68k_opcodes.specs.declared.operand.Size.{Size}
use Rattle.m68k_opcodes.specs.declared.operand.Size.TheVariants.{Byte}
use Rattle.m68k_decode.specs.declared.outcome.Flags.{Flags}
use Rattle.m68k_decode.specs.declared.outcome.Outcome.{Outcome}
use Rattle.m68k_decode.specs.Results.{low, one_if, wrapped, outcome}

-- C and X are the carry; Z can only be cleared; N and V stay
abbrev pub decimal : ℕ → Bool → Flags → Outcome
decimal value carry f = outcome value carry f.n (f.z && (value == 0)) f.v carry

-- the binary sum of two bytes and X, with 6 more where the low digits and X are above 9
abbrev pub digits_adjusted : ℕ → ℕ → Bool → ℕ
digits_adjusted a b x = a + b + one_if x + (if nat_lt 9 (a % 16 + b % 16 + one_if x) then 6 else 0)

-- where that is above 9F, 60h more, and a carry
abbrev pub decimal_carries : ℕ → ℕ → Bool → Bool
decimal_carries a b x = nat_lt 0x9f (digits_adjusted a b x)

abbrev pub decimal_sum : ℕ → ℕ → Bool → ℕ
decimal_sum a b x = (digits_adjusted a b x + (if decimal_carries a b x then 0x60 else 0)) % 256

abbrev pub abcd_of : Size → ℕ → ℕ → Flags → Outcome
abcd_of s a b f =
    decimal (decimal_sum (low Byte a) (low Byte b) f.x) (decimal_carries (low Byte a) (low Byte b) f.x) f

-- the difference a - b - X of numbers
abbrev pub less : ℕ → ℕ → Bool → ℤ
less a b x = pos a -ℤ pos b -ℤ pos (one_if x)

-- it is below 0: a borrow
abbrev pub decimal_borrows : ℕ → ℕ → Bool → Bool
decimal_borrows a b x = int_lt (less a b x) (pos 0)

-- 6 less where the difference of the low digits is below 0
abbrev pub less_adjusted : ℕ → ℕ → Bool → ℤ
less_adjusted a b x =
    if int_lt (less (a % 16) (b % 16) x) (pos 0) then less a b x -ℤ pos 6 else less a b x

-- 60h less where the whole difference is, modulo 256
abbrev pub decimal_difference : ℕ → ℕ → Bool → ℕ
decimal_difference a b x =
    wrapped Byte (if decimal_borrows a b x then less_adjusted a b x -ℤ pos 0x60 else less_adjusted a b x)

abbrev pub sbcd_of : Size → ℕ → ℕ → Flags → Outcome
sbcd_of s a b f =
    decimal (decimal_difference (low Byte a) (low Byte b) f.x) (decimal_borrows (low Byte a) (low Byte b) f.x) f

-- NBCD: SBCD of 0 and the operand
abbrev pub nbcd_of : Size → ℕ → ℕ → Flags → Outcome
nbcd_of s a b f = sbcd_of s 0 a f
