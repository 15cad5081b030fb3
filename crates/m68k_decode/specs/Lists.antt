-- The rows that make a list of accesses: MOVEM and MOVEP.
use Rattle.std.specs.Prelude.{ℕ, zero, suc, Bool, true, false, List, [], ◌∷◌, ◌==◌, ◌+◌, ◌-◌, ◌*◌, ◌/◌, ◌%◌, if◌then◌else◌, nat_lt}
use Rattle.m68k_opcodes.specs.declared.operand.Size.{Size}
use Rattle.m68k_opcodes.specs.declared.operand.Size.TheVariants as S
use Rattle.m68k_opcodes.specs.declared.operand.Mode.{Mode}
use Rattle.m68k_opcodes.specs.declared.operand.Mode.TheVariants as M
use Rattle.m68k_opcodes.specs.declared.instr.Instr.{Instr}
use Rattle.m68k_opcodes.specs.declared.instr.Instr.TheVariants as I
use Rattle.m68k_decode.specs.declared.place.Place68.{Place68}
use Rattle.m68k_decode.specs.declared.place.Place68.TheVariants as P
use Rattle.m68k_decode.specs.declared.regs.CpuRegs.{CpuRegs}
use Rattle.m68k_decode.specs.Registers.{word32, extended_word, data_of, address_of, with_data, with_address}
use Rattle.m68k_decode.specs.Access.{Prog}
use Rattle.m68k_decode.specs.Run.{Run, with_regs, address_after, address_before, finish, place, read, write, merged}
use Rattle.m68k_decode.specs.RowWords.{ones, extended}
use Rattle.m68k_decode.specs.General.{is_program}

-- ---- MOVEM

-- the mode that MOVEM names, and its size
unfoldable pub list_mode : Instr → Mode
list_mode (I.MovemToMemory z m) = m
list_mode (I.MovemToRegisters z m) = m
list_mode _ = M.Imm

unfoldable pub list_size : Instr → Size
list_size (I.MovemToMemory z m) = z
list_size (I.MovemToRegisters z m) = z
list_size _ = S.Long

-- whether it stores downwards: -(An)
unfoldable pub is_downward : Mode → Bool
is_downward (M.Pre r) = true
is_downward _ = false

-- the mode that gives the first address: An by itself steps only at the end
unfoldable pub unstepped : Mode → Mode
unstepped (M.Post r) = M.Ind r
unstepped (M.Pre r) = M.Ind r
unstepped m = m

-- the numbers of the bits set among the last k of 16 bits, lowest first
unfoldable pub numbers : ℕ → ℕ → List ℕ
numbers zero mask = []
numbers (suc k) mask = if mask % 2 == 1 then (15 - k) ∷ numbers k (mask / 2) else numbers k (mask / 2)

-- the registers: 0 to 7 are D0 to D7, 8 to 15 are A0 to A7
unfoldable pub register_of : CpuRegs → ℕ → ℕ
register_of regs n = if nat_lt n 8 then data_of regs n else address_of regs n

unfoldable pub with_register : CpuRegs → ℕ → ℕ → CpuRegs
with_register regs n value = if nat_lt n 8 then with_data regs n value else with_address regs n value

-- the register of a mask's bit; for -(An) bit 0 is A7
unfoldable pub stored_number : Mode → ℕ → ℕ
stored_number m n = if is_downward m then 15 - n else n

-- where the next register is stored, and the address after that
unfoldable pub stored_at : Mode → Size → ℕ → ℕ
stored_at m z at = if is_downward m then address_before z at else at

unfoldable pub stored_next : Mode → Size → ℕ → ℕ
stored_next m z at = if is_downward m then address_before z at else address_after z at

-- the registers at the end: (An)+ and -(An) keep the address
unfoldable pub list_end : Mode → ℕ → CpuRegs → CpuRegs
list_end (M.Post r) at regs = with_address regs r at
list_end (M.Pre r) at regs = with_address regs r at
list_end _ at regs = regs

unfoldable pub list_ended : Instr → ℕ → ℕ → Run → Prog
list_ended i mask at s = finish (ones 16 mask) (with_regs s (list_end (list_mode i) at s.regs))

-- registers to memory: all that is stored is from before
unfoldable pub stores : Instr → ℕ → ℕ → List ℕ → Run → Prog
stores i mask at [] s = list_ended i mask at s
stores i mask at (n ∷ ns) s =
    write s (list_size i) (stored_at (list_mode i) (list_size i) at)
    (register_of s.regs (stored_number (list_mode i) n))
    (stores i mask (stored_next (list_mode i) (list_size i) at) ns s)

-- memory to registers: words are extended with their sign
unfoldable pub loads : Instr → ℕ → ℕ → List ℕ → Run → Prog
loads i mask at [] s = list_ended i mask at s
loads i mask at (n ∷ ns) s =
    read s (list_size i) (is_program (list_mode i)) at
    (λ value. loads i mask (address_after (list_size i) at) ns
    (with_regs s (with_register s.regs n (extended (list_size i) value))))

-- the first address is known
unfoldable pub listing : Instr → ℕ → Place68 → Run → Prog
listing (I.MovemToMemory z m) mask (P.Memory at) s = stores (I.MovemToMemory z m) mask at (numbers 16 mask) s
listing i mask (P.Memory at) s = loads i mask at (numbers 16 mask) s
listing i mask (P.Data r) s = finish 0 s
listing i mask (P.Address r) s = finish 0 s
listing i mask (P.Value v) s = finish 0 s

-- the mask is known
unfoldable pub several : Instr → ℕ → Run → Prog
several i mask s = place s (list_size i) (unstepped (list_mode i)) (λ p t. listing i mask p t)

-- ---- MOVEP: every second byte, the high one first

-- n bytes to memory, of a number whose next byte is the top one
unfoldable pub scatter : ℕ → ℕ → ℕ → Run → Prog
scatter zero at value s = finish 0 s
scatter (suc n) at value s =
    write s S.Byte at (value / 16777216) (scatter n (word32 (at + 2)) (word32 (value * 256)) s)

-- the bytes for a data register have been read
unfoldable pub gathered : Instr → ℕ → Run → Prog
gathered (I.Movep r o a) value s =
    finish 0 (with_regs s (with_data s.regs r (merged (if o == 0 then S.Word else S.Long) (data_of s.regs r) value)))
gathered _ value s = finish 0 s

-- n bytes from memory, behind those of a number
unfoldable pub gather : Instr → ℕ → ℕ → ℕ → Run → Prog
gather i zero at value s = gathered i value s
gather i (suc n) at value s =
    read s S.Byte false at (λ byte. gather i n (word32 (at + 2)) (word32 (value * 256 + byte)) s)

-- the first address is known: o is 0 for a word and 1 for a long to Dr, 2 and 3 for the same from it
abbrev pub bytes_moved : Instr → ℕ → ℕ → ℕ → Run → Prog
bytes_moved i r o at s =
    if o == 0 then gather i 2 at 0 s
    else (if o == 1 then gather i 4 at 0 s
    else (if o == 2 then scatter 2 at (word32 (data_of s.regs r * 65536)) s
    else scatter 4 at (data_of s.regs r) s))

-- the displacement is known
unfoldable pub spread : Instr → ℕ → Run → Prog
spread (I.Movep r o a) displacement s =
    bytes_moved (I.Movep r o a) r o (word32 (address_of s.regs a + extended_word displacement)) s
spread _ displacement s = finish 0 s
