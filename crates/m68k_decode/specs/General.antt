-- The rows with a source, a destination and a result: place of the source, its value, place of the destination, its old
-- value, result, write. (Read from the bottom.)
use Rattle.std.specs.Prelude.{ℕ, Bool, true, false, if◌then◌else◌, Option, Some, None}
use Rattle.m68k_opcodes.specs.declared.operand.Mode.{Mode}
use Rattle.m68k_opcodes.specs.declared.operand.Mode.TheVariants as M
use Rattle.m68k_opcodes.specs.declared.instr.Instr.{Instr}
use Rattle.m68k_decode.specs.declared.place.Place68.{Place68}
use Rattle.m68k_decode.specs.declared.place.Place68.TheVariants as P
use Rattle.m68k_decode.specs.declared.trap.Trap.{Trap}
use Rattle.m68k_decode.specs.declared.under.Under.TheVariants as U
use Rattle.m68k_decode.specs.Access.{Prog, Enter}
use Rattle.m68k_decode.specs.Run.{Run, with_regs, row_clocks, place, load, store}
use Rattle.m68k_decode.specs.RowData.{dest_size, source_size, has_source, source_mode, constant, has_dest, dest_mode}
use Rattle.m68k_decode.specs.RowData.{takes_old, target, result_of, status_after, count_of, trap_of, trap_ea}

-- whether what a mode names is read as program: the PC-relative modes
unfoldable pub is_program : Mode → Bool
is_program M.PcDisp = true
is_program M.PcIndex = true
is_program _ = false

-- the run with another status register
abbrev pub with_status : Run → ℕ → Run
with_status s sr = with_regs s (record s.regs { sr = sr })

-- the result is known: it is stored, or an exception begins
unfoldable pub completed : Option Trap → Instr → Place68 → ℕ → ℕ → Run → Prog
completed None i p value clocks s = store s (dest_size i) (target i p) value clocks
completed (Some kind) i p value clocks s = Enter s.regs (U.Entry kind (trap_ea i) false)

unfoldable pub compute : Instr → ℕ → Place68 → ℕ → Run → Prog
compute i value p old s =
    let o = result_of i value old s.regs.sr in
    completed (trap_of i value old) i p o.value (row_clocks (count_of i value s.regs.sr) s)
    (with_status s (status_after i value o.flags s.regs.sr))

-- the place of the destination is known
unfoldable pub with_dest : Instr → ℕ → Place68 → Run → Prog
with_dest i value p s =
    if takes_old i then load s (dest_size i) false p (λ old. compute i value p old s) else compute i value p 0 s

-- the source is known
unfoldable pub dest : Instr → ℕ → Run → Prog
dest i value s =
    if has_dest i then place s (dest_size i) (dest_mode i) (λ p t. with_dest i value p t)
    else compute i value (P.Value 0) 0 s

-- the place of the source is known
unfoldable pub with_source : Instr → Place68 → Run → Prog
with_source i p s = load s (source_size i) (is_program (source_mode i)) p (λ value. dest i value s)

unfoldable pub general : Instr → Run → Prog
general i s =
    if has_source i then place s (source_size i) (source_mode i) (λ p t. with_source i p t) else dest i (constant i) s
