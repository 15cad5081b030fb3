-- The words that the rows with a source, a destination and a result speak in.
use Rattle.std.specs.Prelude.{ℕ, zero, suc, Bool, ◌||◌, ◌==◌, ◌+◌, ◌/◌, ◌%◌, if◌then◌else◌, ℤ, int_lt, pos, bit_and, bit_or, bit_xor}
use Rattle.m68k_opcodes.specs.declared.operand.Size.{Size}
use Rattle.m68k_opcodes.specs.declared.operand.Size.TheVariants as S
use Rattle.m68k_opcodes.specs.declared.operand.Mode.{Mode}
use Rattle.m68k_opcodes.specs.declared.operand.Mode.TheVariants as M
use Rattle.m68k_opcodes.specs.Modes.{code}
use Rattle.m68k_decode.specs.declared.outcome.Flags.{Flags}
use Rattle.m68k_decode.specs.declared.outcome.Outcome.{Outcome}
use Rattle.m68k_decode.specs.Registers.{extended_word}
use Rattle.m68k_decode.specs.Results.{low, signed}

abbrev pub is_dn : Mode → Bool
is_dn m = code m == 0

abbrev pub is_an : Mode → Bool
is_an m = code m == 1

-- bits are those of a long in Dn and of a byte elsewhere
abbrev pub bit_size : Mode → Size
bit_size m = if is_dn m then S.Long else S.Byte

-- a register, or -(An) where m is 1
abbrev pub pair_mode : ℕ → ℕ → Mode
pair_mode m r = if m == 0 then M.Dn r else M.Pre r

-- a number of three bits that is 8 where they are 0
abbrev pub eight_if_zero : ℕ → ℕ
eight_if_zero n = if n == 0 then 8 else n

-- a word with its sign as a long; a long as it is
abbrev pub extended : Size → ℕ → ℕ
extended S.Byte n = n
extended S.Word n = extended_word (low S.Word n)
extended S.Long n = n

-- a value with the flags as they are
abbrev pub unflagged : ℕ → Flags → Outcome
unflagged value f = record { value = value; flags = f }

-- OR, AND and EOR of a status register and a word
abbrev pub status_logical : ℕ → ℕ → ℕ → ℕ
status_logical w sr value = if w % 3 == 0 then bit_or sr value else (if w % 3 == 1 then bit_and sr value else bit_xor sr value)

-- the 1 bits among the low bits of a number
unfoldable pub ones : ℕ → ℕ → ℕ
ones zero n = 0
ones (suc k) n = n % 2 + ones k (n / 2)

-- the pairs 01 and 10 among neighbours of the low bits of a number
unfoldable pub turns : ℕ → ℕ → ℕ
turns zero n = 0
turns (suc k) n = (if n % 2 == n / 2 % 2 then 0 else 1) + turns k (n / 2)

-- the low word, with its sign
abbrev pub word_of : ℕ → ℤ
word_of n = signed S.Word (low S.Word n)

-- CHK traps below 0 and above the bound
abbrev pub is_outside : ℕ → ℕ → Bool
is_outside bound n = int_lt (word_of n) (pos 0) || int_lt (word_of bound) (word_of n)
