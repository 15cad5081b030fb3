-- What a plain row counts, which exception it makes, and what it makes of the status register.
use Rattle.std.proofs.Common.{◌≡◌, ℕ, true, None, refl}
use Rattle.std.proofs.lemmas.Bool.{false≢true}
use Rattle.m68k_decode.specs.declared.outcome.Flags.{Flags}
use Rattle.m68k_decode.specs.declared.row.Op.{Op}
use Rattle.m68k_decode.specs.declared.row.Op.TheVariants as Q
use Rattle.m68k_decode.specs.declared.row.Count.{Count}
use Rattle.m68k_decode.specs.declared.row.Count.TheVariants as C
use Rattle.m68k_decode.specs.declared.row.Traps.{Traps}
use Rattle.m68k_decode.specs.declared.row.Traps.TheVariants as X
use Rattle.m68k_decode.specs.declared.row.GeneralRow.{GeneralRow}
use Rattle.m68k_decode.specs.RowResults.{count_by, trap_by, status_by}
use Rattle.m68k_decode.specs.Status.{with_flags}
use Rattle.m68k_results.specs.Plain.{is_plain, is_plain_with, is_plain_op}

-- ---- a row with what it counts and the exception that it may make

count_with : (c : Count) (x : Traps) (op : Op) (value sr : ℕ) → is_plain_with c x op ≡ true → count_by c value sr ≡ 0
unfolding is_plain_with count_by
count_with C.Nothing x op value sr is = refl
count_with C.Ones x op value sr is = absurd (false≢true is)
count_with C.Turns x op value sr is = absurd (false≢true is)
count_with C.Shift x op value sr is = absurd (false≢true is)
count_with (C.Condition c) x op value sr is = absurd (false≢true is)

trap_with : (c : Count) (x : Traps) (op : Op) (value old : ℕ) → is_plain_with c x op ≡ true → trap_by x value old ≡ None
unfolding is_plain_with trap_by
trap_with c X.Never op value old is = refl
trap_with C.Nothing X.ByZero op value old is = absurd (false≢true is)
trap_with C.Nothing X.Outside op value old is = absurd (false≢true is)
trap_with C.Ones x op value old is = absurd (false≢true is)
trap_with C.Turns x op value old is = absurd (false≢true is)
trap_with C.Shift x op value old is = absurd (false≢true is)
trap_with (C.Condition c) x op value old is = absurd (false≢true is)

op_with : (c : Count) (x : Traps) (op : Op) → is_plain_with c x op ≡ true → is_plain_op op ≡ true
unfolding is_plain_with
op_with C.Nothing X.Never op is = is
op_with C.Nothing X.ByZero op is = absurd (false≢true is)
op_with C.Nothing X.Outside op is = absurd (false≢true is)
op_with C.Ones x op is = absurd (false≢true is)
op_with C.Turns x op is = absurd (false≢true is)
op_with C.Shift x op is = absurd (false≢true is)
op_with (C.Condition c) x op is = absurd (false≢true is)

status_with : (op : Op) (value : ℕ) (f : Flags) (sr : ℕ) → is_plain_op op ≡ true → status_by op value f sr ≡ with_flags sr f
unfolding is_plain_op status_by
status_with (Q.ImmediateToStatus w) value f sr is = absurd (false≢true is)
status_with (Q.MoveToStatus w) value f sr is = absurd (false≢true is)
status_with op value f sr is = refl

-- ---- a plain row

pub plain_op : (row : GeneralRow) → is_plain row ≡ true → is_plain_op row.op ≡ true
unfolding is_plain
plain_op row is = op_with row.count row.traps row.op is

pub plain_count : (row : GeneralRow) (value sr : ℕ) → is_plain row ≡ true → count_by row.count value sr ≡ 0
unfolding is_plain
plain_count row value sr is = count_with row.count row.traps row.op value sr is

pub plain_trap : (row : GeneralRow) (value old : ℕ) → is_plain row ≡ true → trap_by row.traps value old ≡ None
unfolding is_plain
plain_trap row value old is = trap_with row.count row.traps row.op value old is

pub plain_status : (row : GeneralRow) (value : ℕ) (f : Flags) (sr : ℕ) → is_plain row ≡ true
    → status_by row.op value f sr ≡ with_flags sr f
plain_status row value f sr is = status_with row.op value f sr (plain_op row is)
