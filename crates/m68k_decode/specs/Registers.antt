-- The registers: A7 by the mode of the processor, and numbers of 32 bits.
use Rattle.std.specs.Prelude.{ℕ, Bool, ◌==◌, ◌+◌, ◌/◌, ◌%◌, if◌then◌else◌, nat_lt, slice_index, slice_set}
use Rattle.m68k_decode.specs.declared.regs.CpuRegs.{CpuRegs}

-- what 32 bits keep of a number
abbrev pub word32 : ℕ → ℕ
word32 n = n % 4294967296

-- a word and a byte with their sign, as numbers of 32 bits: what is negative is that much below 2 ^ 32
abbrev pub extended_word : ℕ → ℕ
extended_word w = if nat_lt w 32768 then w else w + 4294901760

abbrev pub extended_byte : ℕ → ℕ
extended_byte b = if nat_lt b 128 then b else b + 4294967040

-- the S bit of a status register
abbrev pub has_supervisor : ℕ → Bool
has_supervisor sr = sr / 8192 % 2 == 1

-- a data register
unfoldable pub data_of : CpuRegs → ℕ → ℕ
data_of regs n = slice_index regs.d (n % 8)

-- an address register; 7 is the stack pointer that the S bit chooses
unfoldable pub address_of : CpuRegs → ℕ → ℕ
address_of regs n =
    if n % 8 == 7 then (if has_supervisor regs.sr then regs.ssp else regs.usp) else slice_index regs.a (n % 8)

-- the registers with another value in a data register, and in an address register
unfoldable pub with_data : CpuRegs → ℕ → ℕ → CpuRegs
with_data regs n value = record regs { d = slice_set regs.d (n % 8) value }

unfoldable pub with_address : CpuRegs → ℕ → ℕ → CpuRegs
with_address regs n value =
    if n % 8 == 7 then (if has_supervisor regs.sr then record regs { ssp = value } else record regs { usp = value })
    else record regs { a = slice_set regs.a (n % 8) value }
