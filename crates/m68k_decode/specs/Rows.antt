-- The instructions with a source, a destination and a result: one row each.
-- (The source of an instruction that names two operands is the first.)
use Rattle.std.specs.Prelude.{ℕ, Bool, true, false, not, ◌==◌, if◌then◌else◌, nat_lt}
use Rattle.m68k_opcodes.specs.declared.operand.Size.{Size}
use Rattle.m68k_opcodes.specs.declared.operand.Size.TheVariants as S
use Rattle.m68k_opcodes.specs.declared.operand.Mode.{Mode}
use Rattle.m68k_opcodes.specs.declared.operand.Mode.TheVariants as M
use Rattle.m68k_opcodes.specs.declared.instr.Instr.{Instr}
use Rattle.m68k_opcodes.specs.declared.instr.Instr.TheVariants as I
use Rattle.m68k_decode.specs.declared.row.Source.{Source}
use Rattle.m68k_decode.specs.declared.row.Source.TheVariants as F
use Rattle.m68k_decode.specs.declared.row.Dest.TheVariants as D
use Rattle.m68k_decode.specs.declared.row.Op.{Op}
use Rattle.m68k_decode.specs.declared.row.Op.TheVariants as Q
use Rattle.m68k_decode.specs.declared.row.Count.TheVariants as C
use Rattle.m68k_decode.specs.declared.row.Traps.TheVariants as X
use Rattle.m68k_decode.specs.declared.row.GeneralRow.{GeneralRow}
use Rattle.m68k_decode.specs.Registers.{extended_byte}
use Rattle.m68k_decode.specs.RowWords.{is_an, bit_size, pair_mode, eight_if_zero}

-- ---- kinds of rows: source, its size, destination, size of destination and result, operation

abbrev pub both : Mode → Size → Mode → Size → Op → GeneralRow
both m y d z op =
    record { source = F.Operand m; source_size = y; dest = D.Operand d; size = z; reads_old = true; writes = true; op = op; count = C.Nothing; traps = X.Never }

-- flags alone change
abbrev pub tests : Mode → Size → Mode → Size → Op → GeneralRow
tests m y d z op = record (both m y d z op) { writes = false }

-- the destination is not read. (CLR, Scc and MOVE from SR read it, and do without its value.)
abbrev pub moves : Mode → Size → Mode → Size → Op → GeneralRow
moves m y d z op = record (both m y d z op) { reads_old = false }

-- the source is a number
abbrev pub one : ℕ → Mode → Size → Op → GeneralRow
one n d z op = record (both M.Imm z d z op) { source = F.Number n }

-- an operation on a status register
abbrev pub status : Mode → Size → Op → GeneralRow
status m y op = record (tests m y M.Imm S.Long op) { dest = D.Nothing }

-- ---- operations by their place

abbrev pub logic_op : ℕ → Op
logic_op w = if w == 0 then Q.Or else (if w == 1 then Q.And else Q.Eor)

abbrev pub sum_op : Bool → Op
sum_op adds = if adds then Q.Add else Q.Sub

abbrev pub immediate_op : ℕ → Op
immediate_op w =
    if w == 0 then Q.Or else (if w == 1 then Q.And else (if w == 2 then Q.Sub else (if w == 3 then Q.Add else Q.Eor)))

abbrev pub bit_op : ℕ → Op
bit_op w = if w == 0 then Q.Btst else (if w == 1 then Q.Bchg else (if w == 2 then Q.Bclr else Q.Bset))

abbrev pub unary_op : ℕ → Op
unary_op w = if w == 0 then Q.Negx else (if w == 1 then Q.Clr else (if w == 2 then Q.Neg else Q.Not))

abbrev pub memory_op : ℕ → Op
memory_op w = if w == 0 then Q.Or else (if w == 1 then Q.And else (if w == 2 then Q.Sub else Q.Add))

abbrev pub address_op : Bool → Op
address_op adds = if adds then Q.AddAddress else Q.SubAddress

-- a quick sum or difference; of an address register it changes no flag
abbrev pub quick_op : Bool → Mode → Op
quick_op adds m = if is_an m then address_op adds else sum_op adds

abbrev pub left_op : ℕ → Op
left_op t = if t == 0 then Q.Asl else (if t == 1 then Q.Lsl else (if t == 2 then Q.Roxl else Q.Rol))

abbrev pub right_op : ℕ → Op
right_op t = if t == 0 then Q.Asr else (if t == 1 then Q.Lsr else (if t == 2 then Q.Roxr else Q.Ror))

-- a shift to the left where d is 1; arithmetic, logical, rotation with extend, rotation by t
abbrev pub shift_op : ℕ → ℕ → Op
shift_op d t = if d == 1 then left_op t else right_op t

-- the count of a shift: in Dc, or the number c
abbrev pub shift_source : ℕ → ℕ → Source
shift_source i c = if i == 1 then F.Operand (M.Dn c) else F.Number (eight_if_zero c)

-- ---- the rows

unfoldable pub general_row : Instr → GeneralRow
general_row (I.Immediate w o z m) = both M.Imm z m z (immediate_op w)
general_row (I.Cmpi z m) = tests M.Imm z m z Q.Cmp
general_row (I.ImmediateToStatus w) = status M.Imm (if nat_lt w 3 then S.Byte else S.Word) (Q.ImmediateToStatus w)
general_row (I.BitDynamic w r t m) = record (both (M.Dn r) S.Long m (bit_size m) (bit_op w)) { writes = not (w == 0) }
general_row (I.BitStatic w t m) = record (both M.Imm S.Byte m (bit_size m) (bit_op w)) { writes = not (w == 0) }
general_row (I.Move z d m) = moves m z d z Q.Move
general_row (I.Movea z r m) = moves m z (M.An r) S.Long Q.MoveAddress
general_row (I.Unary w o z m) = one 0 m z (unary_op w)
general_row (I.MoveFromSr m) = one 0 m S.Word Q.MoveFromSr
general_row (I.MoveToStatus w m) = status m S.Word (Q.MoveToStatus w)
general_row (I.Nbcd m) = one 0 m S.Byte Q.Nbcd
general_row (I.Swap r) = one 0 (M.Dn r) S.Long Q.Swap
general_row (I.Ext z r) = one 0 (M.Dn r) z Q.Ext
general_row (I.Tst z m) = record (one 0 m z Q.Tst) { writes = false }
general_row (I.Tas m) = one 0 m S.Byte Q.Tas
general_row (I.Chk r m) = record (tests m S.Word (M.Dn r) S.Word Q.Chk) { traps = X.Outside }
general_row (I.Quick w q z m) = one (eight_if_zero q) m (if is_an m then S.Long else z) (quick_op (w == 0) m)
general_row (I.Scc c m) = record (one 0 m S.Byte (Q.Scc c)) { count = C.Condition c }
general_row (I.Moveq r d) = record (one (extended_byte d) (M.Dn r) S.Long Q.Move) { reads_old = false }
general_row (I.OrAndToDn w r z m) = both m z (M.Dn r) z (logic_op w)
general_row (I.SubAddToDn w r z m) = both m z (M.Dn r) z (sum_op (w == 1))
general_row (I.ToMemory w r z m) = both (M.Dn r) z m z (memory_op w)
general_row (I.Cmp r z m) = tests m z (M.Dn r) z Q.Cmp
general_row (I.Eor r z m) = both (M.Dn r) z m z Q.Eor
general_row (I.Cmpm x z y) = tests (M.Post y) z (M.Post x) z Q.Cmp
general_row (I.SubaAdda w r z m) = both m z (M.An r) S.Long (address_op (w == 1))
general_row (I.Cmpa r z m) = tests m z (M.An r) S.Long Q.CmpAddress
general_row (I.SubxAddx w x z m y) = both (pair_mode m y) z (pair_mode m x) z (if w == 1 then Q.Addx else Q.Subx)
general_row (I.SbcdAbcd w x m y) = both (pair_mode m y) S.Byte (pair_mode m x) S.Byte (if w == 1 then Q.Abcd else Q.Sbcd)
general_row (I.MuluMuls w r m) =
    record (both m S.Word (M.Dn r) S.Long (if w == 0 then Q.Mulu else Q.Muls)) { count = if w == 0 then C.Ones else C.Turns }
general_row (I.DivuDivs w r m) =
    record (both m S.Word (M.Dn r) S.Long (if w == 0 then Q.Divu else Q.Divs)) { traps = X.ByZero }
general_row (I.ShiftRegister c d z i t r) =
    record (one 0 (M.Dn r) z (shift_op d t)) { source = shift_source i c; source_size = S.Long; count = C.Shift }
general_row (I.ShiftMemory t d m) = one 1 m S.Word (shift_op d t)
general_row _ = both M.Imm S.Long M.Imm S.Long Q.Other
