-- Where an operand is, by its mode.
use Rattle.std.specs.Prelude.{ℕ, List, ◌==◌, ◌+◌, ◌-◌, ◌*◌, ◌/◌, ◌%◌, if◌then◌else◌, slice_index}
use Rattle.m68k_opcodes.specs.declared.operand.Size.{Size}
use Rattle.m68k_opcodes.specs.declared.operand.Size.TheVariants as S
use Rattle.m68k_opcodes.specs.declared.operand.Mode.{Mode}
use Rattle.m68k_opcodes.specs.declared.operand.Mode.TheVariants as M
use Rattle.m68k_decode.specs.declared.place.Place68.{Place68}
use Rattle.m68k_decode.specs.declared.place.Place68.TheVariants as P
use Rattle.m68k_decode.specs.declared.regs.CpuRegs.{CpuRegs}
use Rattle.m68k_decode.specs.Registers.{word32, extended_word, extended_byte, data_of, address_of, with_address}

-- how many extension words follow the opcode for a mode
abbrev pub extensions : Mode → Size → ℕ
extensions (M.Dn r) z = 0
extensions (M.An r) z = 0
extensions (M.Ind r) z = 0
extensions (M.Post r) z = 0
extensions (M.Pre r) z = 0
extensions (M.Disp r) z = 1
extensions (M.Index r) z = 1
extensions M.Short z = 1
extensions M.Long z = 2
extensions M.PcDisp z = 1
extensions M.PcIndex z = 1
extensions M.Imm S.Byte = 1
extensions M.Imm S.Word = 1
extensions M.Imm S.Long = 2

-- how many bytes (An)+ and -(An) step; a byte steps A7 by two
abbrev pub step_of : Size → ℕ → ℕ
step_of S.Byte n = if n % 8 == 7 then 2 else 1
step_of S.Word n = 2
step_of S.Long n = 4

-- the address register after its step on, and back
abbrev pub after_post : CpuRegs → ℕ → Size → ℕ
after_post regs n z = word32 (address_of regs n + step_of z n)

abbrev pub after_pre : CpuRegs → ℕ → Size → ℕ
after_pre regs n z = word32 (address_of regs n + (4294967296 - step_of z n))

-- an address and the displacement of an extension word
abbrev pub displaced : ℕ → ℕ → ℕ
displaced base w = word32 (base + extended_word w)

-- the index that an extension word names: bit 15 an address register, bits 14 to 12 its number, bit 11 the whole of it,
-- else its low word with the sign
abbrev pub index_of : CpuRegs → ℕ → ℕ
index_of regs w =
    let whole = if w / 32768 % 2 == 1 then address_of regs (w / 4096) else data_of regs (w / 4096) in
    if w / 2048 % 2 == 1 then whole else extended_word (whole % 65536)

-- an address, the index and the displacement of an extension word, which is its low byte
abbrev pub indexed : CpuRegs → ℕ → ℕ → ℕ
indexed regs base w = word32 (base + index_of regs w + extended_byte (w % 256))

-- a long of two words, the high one first
abbrev pub long_of : List ℕ → ℕ
long_of words = slice_index words 0 * 65536 + slice_index words 1

-- an immediate operand; that of a byte is the low byte of a word
abbrev pub immediate_of : List ℕ → Size → ℕ
immediate_of words S.Byte = slice_index words 0 % 256
immediate_of words S.Word = slice_index words 0
immediate_of words S.Long = long_of words

-- the place of an operand: words are the extension words, and pc the address of the first
unfoldable pub place_of : Mode → CpuRegs → List ℕ → ℕ → Size → Place68
place_of (M.Dn r) regs words pc z = P.Data r
place_of (M.An r) regs words pc z = P.Address r
place_of (M.Ind r) regs words pc z = P.Memory (address_of regs r)
place_of (M.Post r) regs words pc z = P.Memory (address_of regs r)
place_of (M.Pre r) regs words pc z = P.Memory (after_pre regs r z)
place_of (M.Disp r) regs words pc z = P.Memory (displaced (address_of regs r) (slice_index words 0))
place_of (M.Index r) regs words pc z = P.Memory (indexed regs (address_of regs r) (slice_index words 0))
place_of M.Short regs words pc z = P.Memory (extended_word (slice_index words 0))
place_of M.Long regs words pc z = P.Memory (long_of words)
place_of M.PcDisp regs words pc z = P.Memory (displaced pc (slice_index words 0))
place_of M.PcIndex regs words pc z = P.Memory (indexed regs pc (slice_index words 0))
place_of M.Imm regs words pc z = P.Value (immediate_of words z)

-- the registers after the step of a mode
unfoldable pub stepped : Mode → CpuRegs → Size → CpuRegs
stepped (M.Post r) regs z = with_address regs r (after_post regs r z)
stepped (M.Pre r) regs z = with_address regs r (after_pre regs r z)
stepped _ regs z = regs
