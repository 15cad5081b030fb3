-- The rows that take an address, use the stack, branch, or change the processor's state take their clocks.
use Rattle.std.proofs.Common.{◌≡◌, ℕ, zero, suc, ◌%◌, ◌≤◌, ◌==◌, Bool, true, false, not, ◌&&◌, if◌then◌else◌, [], ◌∷◌, refl, sym, subst, arith}
use Rattle.std.proofs.lemmas.Bool.Decides.{nat_tests}
use Rattle.m68k_opcodes.specs.declared.operand.Size.TheVariants as S
use Rattle.m68k_opcodes.specs.declared.operand.Mode.{Mode}
use Rattle.m68k_opcodes.specs.declared.instr.Instr.{Instr}
use Rattle.m68k_opcodes.specs.declared.instr.Instr.TheVariants as I
use Rattle.m68k_opcodes.specs.Clocks.{Clocks, Always, Outcomes, number}
use Rattle.m68k_opcodes.specs.Table.{clocks_at}
use Rattle.m68k_opcodes.specs.code.Timing.{timing}
use Rattle.m68k_decode.specs.declared.place.Place68.{Place68}
use Rattle.m68k_decode.specs.declared.place.Place68.TheVariants as D
use Rattle.m68k_decode.specs.declared.regs.CpuRegs.{CpuRegs}
use Rattle.m68k_decode.specs.declared.trap.Trap.{Trap}
use Rattle.m68k_decode.specs.declared.under.Under.TheVariants as U
use Rattle.m68k_decode.specs.Registers.{data_of, extended_byte}
use Rattle.m68k_decode.specs.Places.{extensions}
use Rattle.m68k_decode.specs.Status.{flags_of, condition}
use Rattle.m68k_decode.specs.Access.{Enter}
use Rattle.m68k_decode.specs.Run.{Run, with_regs, moved, finish}
use Rattle.m68k_decode.specs.Rows.{general_row}
use Rattle.m68k_decode.specs.RowResults.{trap_ea_by}
use Rattle.m68k_decode.specs.RowData.{trap_ea}
use Rattle.m68k_decode.specs.Flow.{call, addressed_at, addressed, control_mode, control, branched, counted, link, unlinked, unlink}
use Rattle.m68k_decode.specs.Flow.{returned, resumed, resuming, resume, stop, own, own_word, system, returning, branch}
use Rattle.m68k_time.specs.Time.{Takes, dbcc_outcome, branch_outcome}
use Rattle.m68k_time.proofs.Fits.{more, always_serves, serves, fits}
use Rattle.m68k_time.proofs.Counting.{BeginsWith, Holds, serves_takes}
use Rattle.m68k_time.proofs.Parts.{choice, finish_holds, fetch_holds, read_holds, write_holds, place_holds}
use Rattle.m68k_time.proofs.Lawful.{Lawful, Same, lawful_same, With, lawful_with, always_takes, always_fewer}

-- ---- rows whose clocks depend on nothing

same_at : (k l : ℕ) (s : Run) → always_serves k (clocks_at s.opcode) ≡ true → Same s k l (number (clocks_at s.opcode) 0)
same_at k l s h x = always_takes k (clocks_at s.opcode) h 0 x

-- the end of such a row
same_finish : (e k l : ℕ) (s : Run) → always_serves k (clocks_at s.opcode) ≡ true → Holds s.taking (Same s) e k l (finish 0 s)
same_finish e k l s h = finish_holds (Same s) e k l 0 s (same_at k l s h)

pub quiet_row : (i : Instr) (s : Run) (regs : CpuRegs) (t : ℕ) → clocks_at s.opcode ≡ Always t → serves 1 t ≡ true → Lawful i s (finish 0 (with_regs s regs))
quiet_row i s regs t row h =
    lawful_same i s _ (same_finish (trap_ea i) 1 0 (with_regs s regs) (subst (λ c. always_serves 1 c ≡ true) (sym row) h))

-- an exception in place of the instruction
pub entered_row : (i : Instr) (s : Run) (regs : CpuRegs) (kind : Trap) → BeginsWith (trap_ea i) 1 kind 0 → Lawful i s (Enter regs (U.Entry kind 0 false))
entered_row i s regs kind h = lawful_same i s (Enter regs (U.Entry kind 0 false)) h

-- ---- addresses

fewer : (k : ℕ) (c : Clocks) → always_serves (suc (suc k)) c ≡ true → always_serves k c ≡ true
fewer k c h = let less : k ≤ suc (suc k) = omega arith in always_fewer k (suc (suc k)) c less h

call_ends : (P : ℕ → ℕ → ℕ → Type 0) (k l at : ℕ) (s : Run) → ((w : ℕ) → P (suc (suc k)) w (number (clocks_at s.opcode) 0)) → Holds s.taking P 0 k l (call at s)
unfolding call
call_ends P k l at s h = write_holds P 0 k l _ S.Long _ _ _ (λ w. finish_holds P 0 (suc (suc k)) w 0 _ (h w))

call_holds : (k l at : ℕ) (s : Run) → always_serves (suc (suc k)) (clocks_at s.opcode) ≡ true → Holds s.taking (Same s) 0 k l (call at s)
call_holds k l at s h = call_ends (Same s) k l at s (λ w. same_at (suc (suc k)) w s h)

-- a place that holds an address, or none
addressed_holds : (i : Instr) (k l : ℕ) (p : Place68) (s : Run) → always_serves k (clocks_at s.opcode) ≡ true
    → ((at : ℕ) → Holds s.taking (Same s) 0 k l (addressed_at i at s)) → Holds s.taking (Same s) 0 k l (addressed i p s)
unfolding addressed
addressed_holds i k l (D.Memory at) s few h = h at
addressed_holds i k l (D.Data r) s few h = same_finish 0 k l s few
addressed_holds i k l (D.Address r) s few h = same_finish 0 k l s few
addressed_holds i k l (D.Value v) s few h = same_finish 0 k l s few

abbrev serves_now : ℕ → Clocks → Type 0
serves_now k c = always_serves k c ≡ true

pub pea_row : (m : Mode) (s : Run) → clocks_at s.opcode ≡ timing (I.Pea m) → fits (I.Pea m) ≡ true → Lawful (I.Pea m) s (control (I.Pea m) s)
unfolding fits control control_mode addressed_at general_row trap_ea_by
pea_row m s row h =
    let k : ℕ = more (extensions m S.Long) 1 in
    let enough : always_serves (suc (suc k)) (clocks_at s.opcode) ≡ true = subst (λ c. always_serves (suc (suc k)) c ≡ true) (sym row) h in
    lawful_same (I.Pea m) s _ (place_holds (Same s) 0 1 0 s S.Long m _ (λ p regs w placed.
    addressed_holds (I.Pea m) k w p (with_regs s regs) (fewer k (clocks_at s.opcode) enough) (λ at.
    write_holds (Same s) 0 k w _ S.Long _ _ _ (λ v. same_finish 0 (suc (suc k)) v _ enough))))

pub lea_row : (r : ℕ) (m : Mode) (s : Run) → clocks_at s.opcode ≡ timing (I.Lea r m) → fits (I.Lea r m) ≡ true → Lawful (I.Lea r m) s (control (I.Lea r m) s)
unfolding fits control control_mode addressed_at general_row trap_ea_by
lea_row r m s row h =
    let k : ℕ = more (extensions m S.Long) 1 in
    let enough : always_serves k (clocks_at s.opcode) ≡ true = subst (λ c. always_serves k c ≡ true) (sym row) h in
    lawful_same (I.Lea r m) s _ (place_holds (Same s) 0 1 0 s S.Long m _ (λ p regs w placed.
    addressed_holds (I.Lea r m) k w p (with_regs s regs) enough (λ at. same_finish 0 k w _ enough)))

-- JSR writes the PC; JMP doesn't
jumps_serve : (b : Bool) (k : ℕ) (c : Clocks) → always_serves (if b then suc (suc k) else k) c ≡ true → always_serves k c ≡ true
jumps_serve true k c h = fewer k c h
jumps_serve false k c h = h

jumps_hold : (b : Bool) (k l at : ℕ) (s : Run) (regs : CpuRegs) → always_serves (if b then suc (suc k) else k) (clocks_at s.opcode) ≡ true
    → Holds s.taking (Same s) 0 k l (if b then call at s else finish 0 (with_regs s regs))
jumps_hold true k l at s regs h = call_holds k l at s h
jumps_hold false k l at s regs h = same_finish 0 k l _ h

pub jump_row : (which : ℕ) (m : Mode) (s : Run) → clocks_at s.opcode ≡ timing (I.JsrJmp which m) → fits (I.JsrJmp which m) ≡ true
    → Lawful (I.JsrJmp which m) s (control (I.JsrJmp which m) s)
unfolding fits control control_mode addressed_at general_row trap_ea_by
jump_row which m s row h =
    let k : ℕ = more (extensions m S.Long) 1 in
    let enough : always_serves (if which == 0 then suc (suc k) else k) (clocks_at s.opcode) ≡ true =
    subst (λ c. always_serves (if which == 0 then suc (suc k) else k) c ≡ true) (sym row) h in
    lawful_same (I.JsrJmp which m) s _ (place_holds (Same s) 0 1 0 s S.Long m _ (λ p regs w placed.
    addressed_holds (I.JsrJmp which m) k w p (with_regs s regs) (jumps_serve (which == 0) k (clocks_at s.opcode) enough) (λ at.
    jumps_hold (which == 0) k w at (with_regs s regs) _ enough)))

-- ---- LINK and UNLK

pub link_row : (which r : ℕ) (s : Run) → clocks_at s.opcode ≡ timing (I.LinkUnlk which r)
    → Lawful (I.LinkUnlk which r) s (if which == 0 then own_word (I.LinkUnlk which r) s else unlink (I.LinkUnlk which r) r s)
unfolding own_word own link unlink unlinked general_row trap_ea_by
link_row which r s row =
    let M : Bool → Type 0 = λ b. clocks_at s.opcode ≡ Always (if b then 16 else 12)
    → Holds s.taking (Same s) 0 1 0 (if b then own_word (I.LinkUnlk which r) s else unlink (I.LinkUnlk which r) r s) in
    let split : (b : Bool) → M b = (λ b. elim b as M [
      | true ↦ λ now. fetch_holds (Same s) 0 1 0 s _ (λ w below. write_holds (Same s) 0 2 w _ S.Long _ _ _
          (λ v. same_finish 0 4 v _ (subst (λ c. always_serves 4 c ≡ true) (sym now) refl)))
      | false ↦ λ now. read_holds (Same s) 0 1 0 s S.Long false _ _
          (λ value v. same_finish 0 3 v _ (subst (λ c. always_serves 3 c ≡ true) (sym now) refl))
    ]) in
    lawful_same (I.LinkUnlk which r) s _ (split (which == 0) row)

-- ---- returns, and the rows of one word

resume_holds : (i : Instr) (s : Run) → ((word pc w : ℕ) → Holds s.taking (Same s) 0 4 w (resumed i word pc s)) → Holds s.taking (Same s) 0 1 0 (resume i s)
unfolding resume resuming
resume_holds i s h = read_holds (Same s) 0 1 0 s S.Word false _ _ (λ word v. read_holds (Same s) 0 2 v s S.Long false _ _ (λ pc w. h (word % 65536) pc w))

-- RESET, NOP, STOP, RTE
pub system_row : (which : ℕ) (s : Run) → clocks_at s.opcode ≡ timing (I.ResetNopStopRte which) → fits (I.ResetNopStopRte which) ≡ true
    → Lawful (I.ResetNopStopRte which) s (system (I.ResetNopStopRte which) which s)
unfolding fits system own_word own stop resumed general_row trap_ea_by
system_row zero s row h = lawful_same (I.ResetNopStopRte 0) s _ (same_finish 0 1 0 s (subst (λ c. always_serves 1 c ≡ true) (sym row) refl))
system_row (suc zero) s row h = lawful_same (I.ResetNopStopRte 1) s _ (same_finish 0 1 0 s (subst (λ c. always_serves 1 c ≡ true) (sym row) refl))
system_row (suc (suc zero)) s row h =
    lawful_same (I.ResetNopStopRte 2) s _ (fetch_holds (Same s) 0 1 0 s _ (λ w below.
    (same_at 2 w s (subst (λ c. always_serves 2 c ≡ true) (sym row) refl), tt)))
system_row (suc (suc (suc zero))) s row h =
    lawful_same (I.ResetNopStopRte 3) s _ (resume_holds (I.ResetNopStopRte 3) s (λ word pc w.
    same_finish 0 4 w _ (subst (λ c. always_serves 4 c ≡ true) (sym row) refl)))
system_row (suc (suc (suc (suc n)))) s row h = absurd (grind (arith, nat_tests, h))

-- RTS, TRAPV, RTR
pub returning_row : (which : ℕ) (s : Run) → clocks_at s.opcode ≡ timing (I.RtsTrapvRtr which) → fits (I.RtsTrapvRtr which) ≡ true
    → Lawful (I.RtsTrapvRtr which) s (returning (I.RtsTrapvRtr which) which s)
unfolding fits returning returned resumed general_row trap_ea_by
returning_row zero s row h =
    lawful_same (I.RtsTrapvRtr 0) s _ (read_holds (Same s) 0 1 0 s S.Long false _ _ (λ pc w.
    same_finish 0 3 w _ (subst (λ c. always_serves 3 c ≡ true) (sym row) refl)))
returning_row (suc zero) s row h =
    lawful_same (I.RtsTrapvRtr 1) s _ (choice s.taking (Same s) 0 1 0 (flags_of s.regs.sr).v _ _ (λ e. (refl, refl))
    (λ e. same_finish 0 1 0 s (subst (λ c. always_serves 1 c ≡ true) (sym row) refl)))
returning_row (suc (suc zero)) s row h =
    lawful_same (I.RtsTrapvRtr 2) s _ (resume_holds (I.RtsTrapvRtr 2) s (λ word pc w.
    same_finish 0 4 w _ (subst (λ c. always_serves 4 c ≡ true) (sym row) refl)))
returning_row (suc (suc (suc n))) s row h = absurd (grind (arith, nat_tests, h))

-- ---- DBcc and branches, by their outcomes

-- the end of a row with this outcome
with_finish : (x k l : ℕ) (s : Run) (c : Clocks) → clocks_at s.opcode ≡ c → (y : ℕ) → Takes (number c y) k (number c x)
    → Holds s.taking (With s x) 0 k l (finish y s)
with_finish x k l s c row y h =
    finish_holds (With s x) 0 k l y s (subst (λ d. Takes (number d y) k (number d x)) (sym row) h)

-- the clocks of DBcc
abbrev dbcc_clocks : Clocks
dbcc_clocks = Outcomes (12 ∷ 10 ∷ 14 ∷ [])

counted_holds : (holds over : Bool) (l : ℕ) (s : Run) (a b c : CpuRegs) → clocks_at s.opcode ≡ dbcc_clocks
    → Holds s.taking (With s (dbcc_outcome holds over)) 0 2 l
    (if holds then finish 0 (with_regs s a) else (if over then finish 2 (with_regs s b) else finish 1 (with_regs s c)))
counted_holds true over l s a b c row = with_finish 0 2 l (with_regs s a) dbcc_clocks row 0 (serves_takes 2 12 refl)
counted_holds false true l s a b c row = with_finish 2 2 l (with_regs s b) dbcc_clocks row 2 (serves_takes 2 14 refl)
counted_holds false false l s a b c row = with_finish 1 2 l (with_regs s c) dbcc_clocks row 1 (serves_takes 2 10 refl)

pub dbcc_row : (c r : ℕ) (s : Run) → clocks_at s.opcode ≡ timing (I.Dbcc c r) → Lawful (I.Dbcc c r) s (own_word (I.Dbcc c r) s)
unfolding own_word own counted data_of general_row trap_ea_by
dbcc_row c r s row =
    let holds : Bool = condition c (flags_of s.regs.sr) in
    let over : Bool = data_of s.regs r % 65536 == 0 in
    lawful_with (I.Dbcc c r) s _ (dbcc_outcome holds over) (λ ws. refl) (fetch_holds (With s (dbcc_outcome holds over)) 0 1 0 s _ (λ w below.
    counted_holds holds over w s _ _ _ row))

-- the clocks of a branch: BRA, BSR, and Bcc
abbrev branch_clocks : Bool → Bool → Clocks
branch_clocks bra bsr = if bra then Always 10 else (if bsr then Always 18 else Outcomes (10 ∷ 8 ∷ 12 ∷ []))

-- a call's, a branch's that is taken, and a branch's that is not
call_takes : (bra bsr holds long : Bool) → not bra && bsr ≡ true
    → Takes (number (branch_clocks bra bsr) 0) (if long then 4 else 3) (number (branch_clocks bra bsr) (branch_outcome holds long))
call_takes true bsr holds long h = cc
call_takes false false holds long h = cc
call_takes false true holds true h = serves_takes 4 18 refl
call_takes false true holds false h = serves_takes 3 18 refl

taken_takes : (bra bsr long : Bool) → Takes (number (branch_clocks bra bsr) 0) (if long then 2 else 1) (number (branch_clocks bra bsr) 0)
taken_takes true bsr true = serves_takes 2 10 refl
taken_takes true bsr false = serves_takes 1 10 refl
taken_takes false true true = serves_takes 2 18 refl
taken_takes false true false = serves_takes 1 18 refl
taken_takes false false true = serves_takes 2 10 refl
taken_takes false false false = serves_takes 1 10 refl

missed_takes : (bra bsr long : Bool)
    → Takes (number (branch_clocks bra bsr) (if long then 2 else 1)) (if long then 2 else 1) (number (branch_clocks bra bsr) (if long then 2 else 1))
missed_takes true bsr true = serves_takes 2 10 refl
missed_takes true bsr false = serves_takes 1 10 refl
missed_takes false true true = serves_takes 2 18 refl
missed_takes false true false = serves_takes 1 18 refl
missed_takes false false true = serves_takes 2 12 refl
missed_takes false false false = serves_takes 1 8 refl

long_call : (long : Bool) → suc (suc (if long then 2 else 1)) ≡ (if long then 4 else 3)
long_call true = refl
long_call false = refl

branched_holds : (calls bra bsr holds long : Bool) (l at : ℕ) (s : Run) (regs : CpuRegs) → clocks_at s.opcode ≡ branch_clocks bra bsr
    → (if calls then not bra && bsr else true) ≡ true
    → Holds s.taking (With s (branch_outcome holds long)) 0 (if long then 2 else 1) l
    (if calls then call at s else (if holds then finish 0 (with_regs s regs) else finish (if long then 2 else 1) s))
branched_holds true bra bsr holds long l at s regs row h =
    call_ends (With s (branch_outcome holds long)) (if long then 2 else 1) l at s (λ w.
    subst (λ c. Takes (number c 0) (suc (suc (if long then 2 else 1))) (number c (branch_outcome holds long))) (sym row)
    (subst (λ k. Takes (number (branch_clocks bra bsr) 0) k (number (branch_clocks bra bsr) (branch_outcome holds long))) (sym (long_call long))
    (call_takes bra bsr holds long h)))
branched_holds false bra bsr true long l at s regs row h =
    with_finish 0 (if long then 2 else 1) l (with_regs s regs) (branch_clocks bra bsr) row 0 (taken_takes bra bsr long)
branched_holds false bra bsr false long l at s regs row h =
    with_finish (if long then 2 else 1) (if long then 2 else 1) l s (branch_clocks bra bsr) row (if long then 2 else 1) (missed_takes bra bsr long)

pub branch_row : (which c d : ℕ) (s : Run) → clocks_at s.opcode ≡ timing (I.Branch which c d) → fits (I.Branch which c d) ≡ true
    → Lawful (I.Branch which c d) s (branch (I.Branch which c d) which c d s)
unfolding fits branch own_word own branched general_row trap_ea_by
branch_row which c d s row h =
    let holds : Bool = condition c (flags_of s.regs.sr) in
    let M : Bool → Type 0 = λ long. Holds s.taking (With s (branch_outcome holds long)) 0 1 0
    (if long then own_word (I.Branch which c d) s else branched which c (extended_byte d) 1 s) in
    let split : (long : Bool) → M long = (λ long. elim long as M [
      | true ↦ fetch_holds (With s (branch_outcome holds true)) 0 1 0 s _ (λ w below.
          branched_holds (which == 1) (c == 0) (c == 1) holds true w _ (moved s) _ row h)
      | false ↦ branched_holds (which == 1) (c == 0) (c == 1) holds false 0 _ s _ row h
    ]) in
    lawful_with (I.Branch which c d) s _ (branch_outcome holds (d == 0)) (λ ws. refl) (split (d == 0))
