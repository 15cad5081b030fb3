-- What an operation of a row gives: result and flags, the status register, the count of clocks, the exception.
use Rattle.std.specs.Prelude.{ℕ, false, ◌==◌, ◌*◌, ◌%◌, if◌then◌else◌, Option, Some, None, nat_lt}
use Rattle.m68k_opcodes.specs.declared.operand.Size.{Size}
use Rattle.m68k_opcodes.specs.declared.operand.Size.TheVariants as S
use Rattle.m68k_opcodes.specs.declared.operand.Mode.{Mode}
use Rattle.m68k_opcodes.specs.Modes.{ea}
use Rattle.m68k_decode.specs.declared.outcome.Flags.{Flags}
use Rattle.m68k_decode.specs.declared.outcome.Outcome.{Outcome}
use Rattle.m68k_decode.specs.declared.trap.Trap.{Trap}
use Rattle.m68k_decode.specs.declared.trap.Trap.TheVariants as T
use Rattle.m68k_decode.specs.declared.row.Op.{Op}
use Rattle.m68k_decode.specs.declared.row.Op.TheVariants as Q
use Rattle.m68k_decode.specs.declared.row.Count.{Count}
use Rattle.m68k_decode.specs.declared.row.Count.TheVariants as C
use Rattle.m68k_decode.specs.declared.row.Traps.{Traps}
use Rattle.m68k_decode.specs.declared.row.Traps.TheVariants as X
use Rattle.m68k_decode.specs.Results.{low, one_if, move_of, and_of, or_of, eor_of, not_of, tst_of, clr_of, ext_of, swap_of, tas_of}
use Rattle.m68k_decode.specs.ResultsSums.{add_of, sub_of, neg_of, cmp_of, addx_of, subx_of, negx_of, chk_of}
use Rattle.m68k_decode.specs.ResultsBits.{btst_of, bchg_of, bclr_of, bset_of}
use Rattle.m68k_decode.specs.ResultsDecimal.{abcd_of, sbcd_of, nbcd_of}
use Rattle.m68k_decode.specs.ResultsProducts.{mulu_of, muls_of, divu_of, divs_of}
use Rattle.m68k_decode.specs.ResultsShifts.{asl_of, asr_of, lsl_of, lsr_of, rol_of, ror_of, roxl_of, roxr_of}
use Rattle.m68k_decode.specs.Status.{flags_of, with_flags, with_code, kept_status, condition}
use Rattle.m68k_decode.specs.RowWords.{extended, unflagged, status_logical, ones, turns, is_outside}

-- a division; by 0 it clears C and changes nothing else
abbrev pub division : Outcome → ℕ → ℕ → Flags → Outcome
division quotient old value f = if low S.Word value == 0 then unflagged old (record f { c = false }) else quotient

-- the result and the flags, from the source's size, the size, the source, the old value and the flags before
unfoldable pub result_of_op : Op → Size → Size → ℕ → ℕ → ℕ → Flags → Outcome
result_of_op Q.Or y z value old sr f = or_of z old value f
result_of_op Q.And y z value old sr f = and_of z old value f
result_of_op Q.Sub y z value old sr f = sub_of z old value f
result_of_op Q.Add y z value old sr f = add_of z old value f
result_of_op Q.Eor y z value old sr f = eor_of z old value f
result_of_op Q.Cmp y z value old sr f = cmp_of z old value f
result_of_op Q.Btst y z value old sr f = btst_of z old value f
result_of_op Q.Bchg y z value old sr f = bchg_of z old value f
result_of_op Q.Bclr y z value old sr f = bclr_of z old value f
result_of_op Q.Bset y z value old sr f = bset_of z old value f
result_of_op Q.Move y z value old sr f = move_of z value 0 f
result_of_op Q.MoveAddress y z value old sr f = unflagged (extended y value) f
result_of_op Q.Negx y z value old sr f = negx_of z old 0 f
result_of_op Q.Clr y z value old sr f = clr_of z old 0 f
result_of_op Q.Neg y z value old sr f = neg_of z old 0 f
result_of_op Q.Not y z value old sr f = not_of z old 0 f
result_of_op Q.MoveFromSr y z value old sr f = unflagged sr f
result_of_op Q.Nbcd y z value old sr f = nbcd_of z old 0 f
result_of_op Q.Swap y z value old sr f = swap_of z old 0 f
result_of_op Q.Ext y z value old sr f = ext_of z old 0 f
result_of_op Q.Tst y z value old sr f = tst_of z old 0 f
result_of_op Q.Tas y z value old sr f = tas_of z old 0 f
result_of_op Q.Chk y z value old sr f = chk_of z old value f
result_of_op (Q.Scc c) y z value old sr f = unflagged (if condition c f then 255 else 0) f
result_of_op Q.AddAddress y z value old sr f = unflagged (add_of z old (extended y value) f).value f
result_of_op Q.SubAddress y z value old sr f = unflagged (sub_of z old (extended y value) f).value f
result_of_op Q.CmpAddress y z value old sr f = cmp_of z old (extended y value) f
result_of_op Q.Addx y z value old sr f = addx_of z old value f
result_of_op Q.Subx y z value old sr f = subx_of z old value f
result_of_op Q.Abcd y z value old sr f = abcd_of z old value f
result_of_op Q.Sbcd y z value old sr f = sbcd_of z old value f
result_of_op Q.Mulu y z value old sr f = mulu_of z old value f
result_of_op Q.Muls y z value old sr f = muls_of z old value f
result_of_op Q.Divu y z value old sr f = division (divu_of z old value f) old value f
result_of_op Q.Divs y z value old sr f = division (divs_of z old value f) old value f
result_of_op Q.Asl y z value old sr f = asl_of z old value f
result_of_op Q.Asr y z value old sr f = asr_of z old value f
result_of_op Q.Lsl y z value old sr f = lsl_of z old value f
result_of_op Q.Lsr y z value old sr f = lsr_of z old value f
result_of_op Q.Roxl y z value old sr f = roxl_of z old value f
result_of_op Q.Roxr y z value old sr f = roxr_of z old value f
result_of_op Q.Rol y z value old sr f = rol_of z old value f
result_of_op Q.Ror y z value old sr f = ror_of z old value f
result_of_op _ y z value old sr f = unflagged 0 f

-- the same from the status register
abbrev pub result_by : Op → Size → Size → ℕ → ℕ → ℕ → Outcome
result_by op y z value old sr = result_of_op op y z value old sr (flags_of sr)

-- the status register afterwards; the operations on it and the moves to it change it by themselves
unfoldable pub status_by : Op → ℕ → Flags → ℕ → ℕ
status_by (Q.ImmediateToStatus w) value f sr =
    if nat_lt w 3 then with_code sr (status_logical w sr (low S.Word value)) else kept_status (status_logical w sr (low S.Word value))
status_by (Q.MoveToStatus w) value f sr = if w == 0 then with_code sr (low S.Word value) else kept_status (low S.Word value)
status_by _ value f sr = with_flags sr f

-- the count, or the place of the outcome, with which the row's clocks are to be taken: in MULU the 1 bits of the source, in
-- MULS the pairs 01 and 10 in the source followed by a 0, the count of a shift, whether the condition of Scc holds
unfoldable pub count_by : Count → ℕ → ℕ → ℕ
count_by C.Nothing value sr = 0
count_by C.Ones value sr = ones 16 value
count_by C.Turns value sr = turns 16 (2 * value)
count_by C.Shift value sr = value % 64
count_by (C.Condition c) value sr = one_if (condition c (flags_of sr))

-- the exception that the operands make
unfoldable pub trap_by : Traps → ℕ → ℕ → Option Trap
trap_by X.Never value old = None
trap_by X.ByZero value old = if low S.Word value == 0 then Some T.ZeroDivide else None
trap_by X.Outside value old = if is_outside value old then Some T.Chk else None

-- the clocks of the source's mode, which the entries of these exceptions take besides
unfoldable pub trap_ea_by : Traps → Mode → ℕ
trap_ea_by X.Never m = 0
trap_ea_by X.ByZero m = ea S.Word m
trap_ea_by X.Outside m = ea S.Word m
