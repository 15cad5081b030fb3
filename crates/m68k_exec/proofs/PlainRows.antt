-- An instruction with a row of the table is carried out by its row: all but those that change the status register may always be.
use Rattle.std.proofs.Common.{◌≡◌, ℕ, true, refl, ap, sym, subst}
use Rattle.std.proofs.lemmas.Bool.{false≢true}
use Rattle.m68k_opcodes.specs.declared.instr.Instr.{Instr}
use Rattle.m68k_opcodes.specs.declared.instr.Instr.TheVariants as I
use Rattle.m68k_decode.specs.declared.row.GeneralRow.{GeneralRow}
use Rattle.m68k_decode.specs.declared.row.Op.TheVariants as Q
use Rattle.m68k_decode.specs.Rows.{general_row}
use Rattle.m68k_decode.specs.Run.{Run}
use Rattle.m68k_decode.specs.General.{general}
use Rattle.m68k_decode.specs.Status.{needs_supervisor}
use Rattle.m68k_decode.specs.Walk.{execute, permitted}
use Rattle.m68k_results.specs.Plain.{is_plain, is_plain_op}
use Rattle.m68k_exec.proofs.PlainResults.{plain_op}

pub executes_row : (i : Instr) (row : GeneralRow) (s : Run) → general_row i ≡ row → (row.op ≡ Q.Other → ⊥)
    → ((w : ℕ) → row.op ≡ Q.ImmediateToStatus w → ⊥) → ((w : ℕ) → row.op ≡ Q.MoveToStatus w → ⊥) → execute i s ≡ general i s
unfolding execute permitted needs_supervisor general_row
executes_row (I.Movep r o a) row s is other changed moved = absurd (other (sym (ap (λ x. x.op) is)))
executes_row (I.Pea m) row s is other changed moved = absurd (other (sym (ap (λ x. x.op) is)))
executes_row (I.MovemToMemory z m) row s is other changed moved = absurd (other (sym (ap (λ x. x.op) is)))
executes_row (I.MovemToRegisters z m) row s is other changed moved = absurd (other (sym (ap (λ x. x.op) is)))
executes_row (I.Trap v) row s is other changed moved = absurd (other (sym (ap (λ x. x.op) is)))
executes_row (I.LinkUnlk which r) row s is other changed moved = absurd (other (sym (ap (λ x. x.op) is)))
executes_row (I.MoveUsp d r) row s is other changed moved = absurd (other (sym (ap (λ x. x.op) is)))
executes_row (I.ResetNopStopRte which) row s is other changed moved = absurd (other (sym (ap (λ x. x.op) is)))
executes_row (I.RtsTrapvRtr which) row s is other changed moved = absurd (other (sym (ap (λ x. x.op) is)))
executes_row (I.JsrJmp which m) row s is other changed moved = absurd (other (sym (ap (λ x. x.op) is)))
executes_row (I.Lea r m) row s is other changed moved = absurd (other (sym (ap (λ x. x.op) is)))
executes_row (I.Dbcc c r) row s is other changed moved = absurd (other (sym (ap (λ x. x.op) is)))
executes_row (I.Branch which c d) row s is other changed moved = absurd (other (sym (ap (λ x. x.op) is)))
executes_row (I.Exg x o y) row s is other changed moved = absurd (other (sym (ap (λ x. x.op) is)))
executes_row I.Illegal row s is other changed moved = absurd (other (sym (ap (λ x. x.op) is)))
executes_row I.LineA row s is other changed moved = absurd (other (sym (ap (λ x. x.op) is)))
executes_row I.LineF row s is other changed moved = absurd (other (sym (ap (λ x. x.op) is)))
executes_row (I.ImmediateToStatus w) row s is other changed moved = absurd (changed w (sym (ap (λ x. x.op) is)))
executes_row (I.MoveToStatus w m) row s is other changed moved = absurd (moved w (sym (ap (λ x. x.op) is)))
executes_row i row s is other changed moved = refl

other_is_none : is_plain_op Q.Other ≡ true → ⊥
unfolding is_plain_op
other_is_none is = false≢true is

changed_is_none : (w : ℕ) → is_plain_op (Q.ImmediateToStatus w) ≡ true → ⊥
unfolding is_plain_op
changed_is_none w is = false≢true is

moved_is_none : (w : ℕ) → is_plain_op (Q.MoveToStatus w) ≡ true → ⊥
unfolding is_plain_op
moved_is_none w is = false≢true is

-- and so a plain row
pub executes_plain : (i : Instr) (row : GeneralRow) (s : Run) → general_row i ≡ row → is_plain row ≡ true → execute i s ≡ general i s
executes_plain i row s is plain =
    executes_row i row s is (λ e. other_is_none (subst (λ op. is_plain_op op ≡ true) e (plain_op row plain)))
    (λ w e. changed_is_none w (subst (λ op. is_plain_op op ≡ true) e (plain_op row plain)))
    (λ w e. moved_is_none w (subst (λ op. is_plain_op op ≡ true) e (plain_op row plain)))
