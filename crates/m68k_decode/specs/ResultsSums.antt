-- The outcomes of sums, differences and comparisons.
use Rattle.std.specs.Prelude.{ℕ, ◌+◌, ◌-◌, ◌%◌, Bool, true, false, not, ◌&&◌, if◌then◌else◌, ◌==◌, nat_lt, nat_le, ℤ, pos, ◌+ℤ◌, ◌-ℤ◌, int_lt}
use Rattle.m68k_opcodes.specs.declared.operand.Size.{Size}
use Rattle.m68k_opcodes.specs.declared.operand.Size.TheVariants.{Word}
use Rattle.m68k_decode.specs.declared.outcome.Flags.{Flags}
use Rattle.m68k_decode.specs.declared.outcome.Outcome.{Outcome}
use Rattle.m68k_decode.specs.Results.{span, low, is_negative, signed, is_signed, one_if, outcome}

-- ---- what is said of numbers a and b of the size and a flag that is added or taken too

-- the sum of the numbers with signs is none of the size
abbrev pub sum_overflows : Size → ℕ → ℕ → Bool → Bool
sum_overflows s a b x = not (is_signed s (signed s a +ℤ signed s b +ℤ pos (one_if x)))

-- the difference of the numbers with signs is none of the size
abbrev pub difference_overflows : Size → ℕ → ℕ → Bool → Bool
difference_overflows s a b x = not (is_signed s (signed s a -ℤ signed s b -ℤ pos (one_if x)))

-- the sum leaves the size
abbrev pub sum_carries : Size → ℕ → ℕ → Bool → Bool
sum_carries s a b x = nat_le (span s) (a + b + one_if x)

-- the difference is below 0
abbrev pub difference_borrows : ℕ → ℕ → Bool → Bool
difference_borrows a b x = nat_lt a (b + one_if x)

abbrev pub sum : Size → ℕ → ℕ → Bool → ℕ
sum s a b x = (a + b + one_if x) % span s

-- the difference, modulo the span
abbrev pub difference : Size → ℕ → ℕ → Bool → ℕ
difference s a b x = (a + span s - (b + one_if x)) % span s

-- Z is set where the result is 0 and `zero` is true
abbrev pub sum_of : Size → ℕ → ℕ → Bool → Bool → Outcome
sum_of s a b x zero =
    outcome (sum s a b x) (sum_carries s a b x) (is_negative s (sum s a b x)) (zero && (sum s a b x == 0))
    (sum_overflows s a b x) (sum_carries s a b x)

abbrev pub difference_of : Size → ℕ → ℕ → Bool → Bool → Outcome
difference_of s a b x zero =
    outcome (difference s a b x) (difference_borrows a b x) (is_negative s (difference s a b x))
    (zero && (difference s a b x == 0)) (difference_overflows s a b x) (difference_borrows a b x)

-- ---- the operations

abbrev pub add_of : Size → ℕ → ℕ → Flags → Outcome
add_of s a b f = sum_of s (low s a) (low s b) false true

abbrev pub sub_of : Size → ℕ → ℕ → Flags → Outcome
sub_of s a b f = difference_of s (low s a) (low s b) false true

-- NEG: 0 less the operand
abbrev pub neg_of : Size → ℕ → ℕ → Flags → Outcome
neg_of s a b f = difference_of s 0 (low s a) false true

-- CMP: the flags of SUB, but X stays; the value is the destination
abbrev pub cmp_of : Size → ℕ → ℕ → Flags → Outcome
cmp_of s a b f = record { value = low s a; flags = record (sub_of s a b f).flags { x = f.x } }

-- ADDX, SUBX, NEGX: X is added or taken too, and Z can only be cleared
abbrev pub addx_of : Size → ℕ → ℕ → Flags → Outcome
addx_of s a b f = sum_of s (low s a) (low s b) f.x f.z

abbrev pub subx_of : Size → ℕ → ℕ → Flags → Outcome
subx_of s a b f = difference_of s (low s a) (low s b) f.x f.z

abbrev pub negx_of : Size → ℕ → ℕ → Flags → Outcome
negx_of s a b f = difference_of s 0 (low s a) f.x f.z

-- what N is after CHK, for a value, a bound and N before: below 0 comes first
abbrev pub checked : ℤ → ℤ → Bool → Bool
checked value bound n = if int_lt value (pos 0) then true else (if int_lt bound value then false else n)

-- CHK: words at any size; the other flags stay
abbrev pub chk_of : Size → ℕ → ℕ → Flags → Outcome
chk_of s a b f = outcome (low Word a) f.x (checked (signed Word (low Word a)) (signed Word (low Word b)) f.n) f.z f.v f.c
