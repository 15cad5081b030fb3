-- Numbers of a size, and the outcomes of moving and logical operations.
-- An operation takes `a`, the destination or only operand, `b`, the source, count, bit number or bound, and the flags
-- before it. Operands are cut to the size that the operation works on.
use Rattle.std.specs.Prelude.{ℕ, ◌+◌, ◌-◌, ◌*◌, ◌/◌, ◌%◌, Bool, false, not, ◌&&◌, if◌then◌else◌}
use Rattle.std.specs.Prelude.{◌==◌, nat_lt, nat_le, ℤ, pos, negsuc, ◌-ℤ◌, int_lt, bit_and, bit_or, bit_xor}
use Rattle.m68k_opcodes.specs.declared.operand.Size.{Size}
use Rattle.m68k_opcodes.specs.declared.operand.Size.TheVariants.{Byte, Word, Long}
use Rattle.m68k_decode.specs.declared.outcome.Flags.{Flags}
use Rattle.m68k_decode.specs.declared.outcome.Outcome.{Outcome}

-- ---- numbers of a size

-- how many bits a size has
abbrev pub bits : Size → ℕ
bits Byte = 8
bits Word = 16
bits Long = 32

-- how many numbers a size has: 2 to its bits
abbrev pub span : Size → ℕ
span Byte = 256
span Word = 65536
span Long = 4294967296

-- the half of the span, from which on the top bit is set
abbrev pub half : Size → ℕ
half Byte = 128
half Word = 32768
half Long = 2147483648

-- a number cut to a size
abbrev pub low : Size → ℕ → ℕ
low s n = n % span s

-- whether the top bit of a number of the size is set
abbrev pub is_negative : Size → ℕ → Bool
is_negative s n = nat_le (half s) n

-- a number of the size, read with a sign (two's complement)
abbrev pub signed : Size → ℕ → ℤ
signed s n = if nat_lt n (half s) then pos n else pos n -ℤ pos (span s)

-- whether a number with a sign is one of the size
abbrev pub is_signed : Size → ℤ → Bool
is_signed s z = not (int_lt z (pos 0 -ℤ pos (half s))) && int_lt z (pos (half s))

-- the number of the size that differs from z by a multiple of the span
abbrev pub wrapped : Size → ℤ → ℕ
wrapped s (pos n) = n % span s
wrapped s (negsuc n) = span s - 1 - n % span s

-- 1 for a set flag, 0 for a clear one
abbrev pub one_if : Bool → ℕ
one_if b = if b then 1 else 0

-- ---- outcomes

abbrev pub outcome : (value : ℕ) (x n z v c : Bool) → Outcome
outcome value x n z v c = record { value = value; flags = record { x = x; n = n; z = z; v = v; c = c } }

-- a result of the size: N and Z are its own, V and C are clear, X stays
abbrev pub plain : Size → ℕ → Flags → Outcome
plain s value f = outcome value f.x (is_negative s value) (value == 0) false false

abbrev pub move_of : Size → ℕ → ℕ → Flags → Outcome
move_of s a b f = plain s (low s a) f

abbrev pub and_of : Size → ℕ → ℕ → Flags → Outcome
and_of s a b f = plain s (bit_and (low s a) (low s b)) f

abbrev pub or_of : Size → ℕ → ℕ → Flags → Outcome
or_of s a b f = plain s (bit_or (low s a) (low s b)) f

abbrev pub eor_of : Size → ℕ → ℕ → Flags → Outcome
eor_of s a b f = plain s (bit_xor (low s a) (low s b)) f

-- NOT: each bit inverted
abbrev pub not_of : Size → ℕ → ℕ → Flags → Outcome
not_of s a b f = plain s (span s - 1 - low s a) f

-- TST: the operand itself
abbrev pub tst_of : Size → ℕ → ℕ → Flags → Outcome
tst_of s a b f = plain s (low s a) f

abbrev pub clr_of : Size → ℕ → ℕ → Flags → Outcome
clr_of s a b f = plain s 0 f

-- the size that EXT extends to a size; a byte stays one
abbrev pub extended_from : Size → Size
extended_from Byte = Byte
extended_from Word = Byte
extended_from Long = Word

-- EXT: the size is the result's, which has the sign of the operand
abbrev pub ext_of : Size → ℕ → ℕ → Flags → Outcome
ext_of s a b f = plain s (wrapped s (signed (extended_from s) (low (extended_from s) a))) f

-- SWAP: the low word before the high word, of 32 bits at any size
abbrev pub swap_of : Size → ℕ → ℕ → Flags → Outcome
swap_of s a b f = plain Long (a % 65536 * 65536 + a / 65536 % 65536) f

-- TAS: a byte at any size, its top bit set afterwards; N and Z are those of the operand before
abbrev pub tas_of : Size → ℕ → ℕ → Flags → Outcome
tas_of s a b f = outcome (a % 128 + 128) f.x (is_negative Byte (low Byte a)) (low Byte a == 0) false false
