-- The rows with a source, a destination and a result take their clocks.
use Rattle.std.proofs.Common.{◌≡◌, ℕ, ◌+◌, ◌/◌, ◌==◌, Bool, true, false, if◌then◌else◌, Some, None, refl, sym, subst}
use Rattle.m68k_opcodes.specs.declared.operand.Size.TheVariants as S
use Rattle.m68k_opcodes.specs.declared.operand.Mode.{Mode}
use Rattle.m68k_opcodes.specs.declared.operand.Mode.TheVariants as M
use Rattle.m68k_opcodes.specs.declared.instr.Instr.{Instr}
use Rattle.m68k_opcodes.specs.declared.instr.Instr.TheVariants as I
use Rattle.m68k_opcodes.specs.Modes.{ea}
use Rattle.m68k_opcodes.specs.Table.{clocks_at}
use Rattle.m68k_opcodes.specs.code.Timing.{timing}
use Rattle.m68k_decode.specs.declared.trap.Trap.TheVariants as T
use Rattle.m68k_decode.specs.Places.{extensions}
use Rattle.m68k_decode.specs.Results.{low}
use Rattle.m68k_decode.specs.Run.{Run}
use Rattle.m68k_decode.specs.RowWords.{is_outside}
use Rattle.m68k_decode.specs.Rows.{general_row}
use Rattle.m68k_decode.specs.RowResults.{trap_by, trap_ea_by}
use Rattle.m68k_decode.specs.RowData.{trap_of, trap_ea}
use Rattle.m68k_decode.specs.General as G
use Rattle.m68k_time.proofs.Fits.{more, loads, with_source, with_dest, with_result, always_serves}
use Rattle.m68k_time.proofs.General.{Breaks, general_holds}
use Rattle.m68k_time.proofs.Lawful.{Lawful, Same, lawful_same, always_takes}

-- the accesses of an operand's word are those that the clocks of its mode count
operand_accesses : (m : Mode) → more (loads m S.Word) (more (extensions m S.Word) 1) ≡ 1 + ea S.Word m / 4
operand_accesses (M.Dn r) = refl
operand_accesses (M.An r) = refl
operand_accesses (M.Ind r) = refl
operand_accesses (M.Post r) = refl
operand_accesses (M.Pre r) = refl
operand_accesses (M.Disp r) = refl
operand_accesses (M.Index r) = refl
operand_accesses M.Short = refl
operand_accesses M.Long = refl
operand_accesses M.PcDisp = refl
operand_accesses M.PcIndex = refl
operand_accesses M.Imm = refl

-- the exceptions that operands make
division_breaks : (m : Mode) (b : Bool)
    → Breaks (ea S.Word m) (more (loads m S.Word) (more (extensions m S.Word) 1)) (ea S.Word m) (if b then Some T.ZeroDivide else None)
division_breaks m true = (refl, operand_accesses m)
division_breaks m false = tt

check_breaks : (m : Mode) (b : Bool)
    → Breaks (ea S.Word m) (more (loads m S.Word) (more (extensions m S.Word) 1)) (ea S.Word m) (if b then Some T.Chk else None)
check_breaks m true = (refl, operand_accesses m)
check_breaks m false = tt

breaks : (i : Instr) (value old : ℕ) → Breaks (trap_ea i) (with_dest i (with_source i 1)) (trap_ea i) (trap_of i value old)
unfolding with_source with_dest general_row trap_by trap_ea_by
breaks (I.DivuDivs w r m) value old = division_breaks m (low S.Word value == 0)
breaks (I.Chk r m) value old = check_breaks m (is_outside value old)
breaks i value old = tt

-- a row whose clocks depend on nothing
pub same_row : (i : Instr) (s : Run) → clocks_at s.opcode ≡ timing i → always_serves (with_result i 1) (timing i) ≡ true → Lawful i s (G.general i s)
unfolding with_result
same_row i s row fits =
    lawful_same i s (G.general i s) (general_holds (Same s) (trap_ea i) 1 0 i s (record {
      ends = λ w x y. always_takes (with_result i 1) (clocks_at s.opcode) (subst (λ c. always_serves (with_result i 1) c ≡ true) (sym row) fits) x y;
      begins = breaks i;
    }))
