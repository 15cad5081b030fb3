-- The rows that change the status register by their flags alone, take the same clocks whatever their operands, and make no
-- exception, of the operations that programs are mostly made of.
use Rattle.std.specs.Prelude.{Bool, true, false}
use Rattle.m68k_decode.specs.declared.row.Op.{Op}
use Rattle.m68k_decode.specs.declared.row.Op.TheVariants as Q
use Rattle.m68k_decode.specs.declared.row.Count.{Count}
use Rattle.m68k_decode.specs.declared.row.Count.TheVariants as C
use Rattle.m68k_decode.specs.declared.row.Traps.{Traps}
use Rattle.m68k_decode.specs.declared.row.Traps.TheVariants as X
use Rattle.m68k_decode.specs.declared.row.GeneralRow.{GeneralRow}

unfoldable pub is_plain_op : Op → Bool
is_plain_op Q.Or = true
is_plain_op Q.And = true
is_plain_op Q.Sub = true
is_plain_op Q.Add = true
is_plain_op Q.Eor = true
is_plain_op Q.Cmp = true
is_plain_op Q.Move = true
is_plain_op Q.MoveAddress = true
is_plain_op Q.Clr = true
is_plain_op Q.Tst = true
is_plain_op Q.AddAddress = true
is_plain_op Q.SubAddress = true
is_plain_op Q.CmpAddress = true
is_plain_op Q.Btst = true
is_plain_op Q.Not = true
is_plain_op Q.Neg = true
is_plain_op Q.Swap = true
is_plain_op Q.Ext = true
is_plain_op _ = false

-- with what the row counts and the exception that it may make
unfoldable pub is_plain_with : Count → Traps → Op → Bool
is_plain_with C.Nothing X.Never op = is_plain_op op
is_plain_with C.Nothing X.ByZero op = false
is_plain_with C.Nothing X.Outside op = false
is_plain_with C.Ones x op = false
is_plain_with C.Turns x op = false
is_plain_with C.Shift x op = false
is_plain_with (C.Condition c) x op = false

unfoldable pub is_plain : GeneralRow → Bool
is_plain row = is_plain_with row.count row.traps row.op
