-- The outcomes of the bit operations. Z is the contrary of the bit before, all other flags stay.
use Rattle.std.specs.Prelude.{ℕ, ◌+◌, ◌-◌, ◌/◌, ◌%◌, ◌^◌, Bool, not, if◌then◌else◌, ◌==◌}
use Rattle.m68k_opcodes.specs.declared.operand.Size.{Size}
use Rattle.m68k_decode.specs.declared.outcome.Flags.{Flags}
use Rattle.m68k_decode.specs.declared.outcome.Outcome.{Outcome}
use Rattle.m68k_decode.specs.Results.{bits, low, outcome}

-- the place of the bit: its number modulo the bits of the size
abbrev pub place : Size → ℕ → ℕ
place s b = b % bits s

abbrev pub is_set : ℕ → ℕ → Bool
is_set n k = n / 2 ^ k % 2 == 1

-- a number with its bit k set, clear and changed
abbrev pub with_bit : ℕ → ℕ → ℕ
with_bit n k = if is_set n k then n else n + 2 ^ k

abbrev pub without_bit : ℕ → ℕ → ℕ
without_bit n k = if is_set n k then n - 2 ^ k else n

abbrev pub changed_bit : ℕ → ℕ → ℕ
changed_bit n k = if is_set n k then n - 2 ^ k else n + 2 ^ k

abbrev pub bit_outcome : ℕ → Bool → Flags → Outcome
bit_outcome value before f = outcome value f.x f.n (not before) f.v f.c

abbrev pub btst_of : Size → ℕ → ℕ → Flags → Outcome
btst_of s a b f = bit_outcome (low s a) (is_set (low s a) (place s b)) f

abbrev pub bchg_of : Size → ℕ → ℕ → Flags → Outcome
bchg_of s a b f = bit_outcome (changed_bit (low s a) (place s b)) (is_set (low s a) (place s b)) f

abbrev pub bclr_of : Size → ℕ → ℕ → Flags → Outcome
bclr_of s a b f = bit_outcome (without_bit (low s a) (place s b)) (is_set (low s a) (place s b)) f

abbrev pub bset_of : Size → ℕ → ℕ → Flags → Outcome
bset_of s a b f = bit_outcome (with_bit (low s a) (place s b)) (is_set (low s a) (place s b)) f
