-- Which clocks are even and enough for the accesses of an instruction: a test of an instruction.
use Rattle.std.proofs.Common.{ℕ, zero, suc, ◌*◌, ◌%◌, ◌==◌, Bool, true, false, ◌&&◌, not, nat_le, nat_lt, if◌then◌else◌}
use Rattle.m68k_opcodes.specs.declared.operand.Size.{Size}
use Rattle.m68k_opcodes.specs.declared.operand.Size.TheVariants as S
use Rattle.m68k_opcodes.specs.declared.operand.Mode.{Mode}
use Rattle.m68k_opcodes.specs.declared.operand.Mode.TheVariants as M
use Rattle.m68k_opcodes.specs.declared.instr.Instr.{Instr}
use Rattle.m68k_opcodes.specs.declared.instr.Instr.TheVariants as I
use Rattle.m68k_opcodes.specs.Clocks.{Clocks, Always, Counted}
use Rattle.m68k_opcodes.specs.code.Timing.{timing}
use Rattle.m68k_decode.specs.Places.{extensions}
use Rattle.m68k_decode.specs.Rows.{general_row}
use Rattle.m68k_decode.specs.RowData.{dest_size, source_size, has_source, source_mode, has_dest, dest_mode, takes_old, writes}

-- n more
abbrev pub more : ℕ → ℕ → ℕ
more zero k = k
more (suc n) k = more n (suc k)

-- how many accesses a value of a size takes
abbrev pub words : Size → ℕ
words S.Byte = 1
words S.Word = 1
words S.Long = 2

-- how many accesses the value of an operand takes, by its mode
abbrev pub loads : Mode → Size → ℕ
loads (M.Dn r) z = 0
loads (M.An r) z = 0
loads M.Imm z = 0
loads m z = words z

-- the accesses of the rows with a source, a destination and a result: behind k accesses, those up to the source, and then
-- those up to the old value of the destination
unfoldable pub with_source : Instr → ℕ → ℕ
with_source i k =
    if has_source i then more (loads (source_mode i) (source_size i)) (more (extensions (source_mode i) (source_size i)) k) else k

unfoldable pub with_dest : Instr → ℕ → ℕ
with_dest i k =
    if has_dest i then
    (if takes_old i then more (loads (dest_mode i) (dest_size i)) (more (extensions (dest_mode i) (dest_size i)) k)
    else more (extensions (dest_mode i) (dest_size i)) k)
    else k

-- the accesses that write the result
unfoldable pub result_words : Instr → ℕ
result_words i = if writes i then (if has_dest i then loads (dest_mode i) (dest_size i) else 0) else 0

-- all accesses behind the opcode's
unfoldable pub with_result : Instr → ℕ → ℕ
with_result i k = more (result_words i) (with_dest i (with_source i k))

-- a number that is even, and enough for k accesses
abbrev pub serves : ℕ → ℕ → Bool
serves k t = nat_le (4 * k) t && (t % 2 == 0)

-- clocks that depend on nothing
abbrev pub always_serves : ℕ → Clocks → Bool
always_serves k (Always t) = serves k t
always_serves k _ = false

-- clocks that rise with a count, each unit of which takes so many accesses more
abbrev pub counted_serves : ℕ → ℕ → Clocks → Bool
counted_serves k more_each (Counted t each) = serves k t && serves more_each each
counted_serves k more_each _ = false

abbrev pub is_an : Mode → Bool
is_an (M.An r) = true
is_an _ = false

abbrev pub is_dn : Mode → Bool
is_dn (M.Dn r) = true
is_dn _ = false

unfoldable pub fits : Instr → Bool
unfolding with_source with_dest result_words with_result general_row
fits (I.Movep r o a) = true
fits (I.Pea m) = always_serves (more 2 (more (extensions m S.Long) 1)) (timing (I.Pea m))
fits (I.MovemToMemory z m) = counted_serves (more (extensions m z) 2) (words z) (timing (I.MovemToMemory z m))
fits (I.MovemToRegisters z m) = counted_serves (more (extensions m z) 2) (words z) (timing (I.MovemToRegisters z m))
fits (I.Trap v) = true
fits (I.LinkUnlk which r) = true
fits (I.MoveUsp d r) = true
fits (I.ResetNopStopRte which) = nat_lt which 4
fits (I.RtsTrapvRtr which) = nat_lt which 3
fits (I.JsrJmp which m) =
    always_serves (if which == 0 then more 2 (more (extensions m S.Long) 1) else more (extensions m S.Long) 1) (timing (I.JsrJmp which m))
fits (I.Lea r m) = always_serves (more (extensions m S.Long) 1) (timing (I.Lea r m))
fits (I.Dbcc c r) = true
fits (I.Branch which c d) = if which == 1 then not (c == 0) && (c == 1) else true
fits (I.Exg x o y) = true
fits I.Illegal = true
fits I.LineA = true
fits I.LineF = true
fits (I.MuluMuls w r m) = not (is_an m) && counted_serves (with_result (I.MuluMuls w r m) 1) 0 (timing (I.MuluMuls w r m))
fits (I.ShiftRegister c d z i t r) = true
fits (I.Scc c m) = if is_dn m then true else always_serves (with_result (I.Scc c m) 1) (timing (I.Scc c m))
fits i = always_serves (with_result i 1) (timing i)
