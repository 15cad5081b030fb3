-- The law on time: every instruction, every exception, the reset and the waiting.
use Rattle.std.proofs.Common.{◌≡◌, ℕ, suc, ◌+◌, ◌<◌, Bool, true, false, not, ◌&&◌, List, [], ◌∷◌, length, refl, subst, arith}
use Rattle.m68k_opcodes.specs.declared.operand.Mode.TheVariants as M
use Rattle.m68k_opcodes.specs.declared.instr.Instr.{Instr}
use Rattle.m68k_opcodes.specs.declared.instr.Instr.TheVariants as I
use Rattle.m68k_opcodes.specs.Clocks.{number}
use Rattle.m68k_opcodes.specs.Table.{decode_of, clocks_at}
use Rattle.m68k_opcodes.specs.code.Timing.{timing}
use Rattle.m68k_opcodes.proofs.Whole.{timed_at}
use Rattle.m68k_decode.specs.declared.regs.CpuRegs.{CpuRegs}
use Rattle.m68k_decode.specs.declared.trap.Trap.{Trap}
use Rattle.m68k_decode.specs.declared.trap.Trap.TheVariants as T
use Rattle.m68k_decode.specs.declared.under.Under.{Under}
use Rattle.m68k_decode.specs.declared.under.Under.TheVariants as U
use Rattle.m68k_decode.specs.Registers.{has_supervisor, data_of}
use Rattle.m68k_decode.specs.Status.{needs_supervisor}
use Rattle.m68k_decode.specs.Access.{Prog, End, Enter}
use Rattle.m68k_decode.specs.Run.{Run, moved}
use Rattle.m68k_decode.specs.Rows.{general_row}
use Rattle.m68k_decode.specs.RowResults.{trap_ea_by}
use Rattle.m68k_decode.specs.RowData.{trap_ea}
use Rattle.m68k_decode.specs.Walk.{refused, permitted, execute, opcode_read, instruction, begun, program}
use Rattle.m68k_time.specs.Time.{ComesTo, AreWords, Takes, GoesOn, outcome, InstructionTime, ExceptionTime, ResetTime, StoppedTime, is_address_error}
use Rattle.m68k_time.specs.Boundaries.{still_taking}
use Rattle.m68k_time.proofs.Fits.{more, fits}
use Rattle.m68k_time.proofs.AllFit.{fits_at}
use Rattle.m68k_time.proofs.Counting.{BeginsWith, Begins, Holds, more_sum, serves_takes}
use Rattle.m68k_time.proofs.Parts.{fetch_comes, fetch_no_end, fetch_begins}
use Rattle.m68k_time.proofs.Lawful.{Lawful, lawful_choice}
use Rattle.m68k_time.proofs.Rows.{same_row}
use Rattle.m68k_time.proofs.CountedRows.{shift_row, scc_row, product_row}
use Rattle.m68k_time.proofs.Lists.{to_memory_row, to_registers_row, bytes_row}
use Rattle.m68k_time.proofs.Flow.{quiet_row, entered_row, pea_row, lea_row, jump_row, link_row, system_row, returning_row, dbcc_row, branch_row}
use Rattle.m68k_time.proofs.Entries.{exception_takes, reset_takes}

-- ---- what follows an opcode

permitted_lawful : (i : Instr) (s : Run) → clocks_at s.opcode ≡ timing i → fits i ≡ true → Lawful i s (permitted i s)
unfolding permitted fits refused general_row trap_ea_by
permitted_lawful (I.Movep r o a) s row h = bytes_row r o a s row
permitted_lawful (I.Pea m) s row h = pea_row m s row h
permitted_lawful (I.MovemToMemory z m) s row h = to_memory_row z m s row h
permitted_lawful (I.MovemToRegisters z m) s row h = to_registers_row z m s row h
permitted_lawful (I.Trap v) s row h = entered_row (I.Trap v) s s.regs (T.Number v) (refl, refl)
permitted_lawful (I.LinkUnlk which r) s row h = link_row which r s row
permitted_lawful (I.MoveUsp d r) s row h = quiet_row (I.MoveUsp d r) s _ 4 row refl
permitted_lawful (I.ResetNopStopRte which) s row h = system_row which s row h
permitted_lawful (I.RtsTrapvRtr which) s row h = returning_row which s row h
permitted_lawful (I.JsrJmp which m) s row h = jump_row which m s row h
permitted_lawful (I.Lea r m) s row h = lea_row r m s row h
permitted_lawful (I.Dbcc c r) s row h = dbcc_row c r s row
permitted_lawful (I.Branch which c d) s row h = branch_row which c d s row h
permitted_lawful (I.Exg x o y) s row h = quiet_row (I.Exg x o y) s _ 6 row refl
permitted_lawful I.Illegal s row h = entered_row I.Illegal s s.start T.Illegal (refl, refl)
permitted_lawful I.LineA s row h = entered_row I.LineA s s.start T.LineA (refl, refl)
permitted_lawful I.LineF s row h = entered_row I.LineF s s.start T.LineF (refl, refl)
permitted_lawful (I.MuluMuls w r m) s row h = product_row w r m s row h
permitted_lawful (I.ShiftRegister c d z i t r) s row h = shift_row c d z i t r s row
permitted_lawful (I.Scc c (M.Dn r)) s row h = scc_row c r s row
permitted_lawful i s row h = same_row i s row h

execute_lawful : (i : Instr) (s : Run) → clocks_at s.opcode ≡ timing i → fits i ≡ true → Lawful i s (execute i s)
unfolding execute refused
execute_lawful i s row h =
    lawful_choice i s (needs_supervisor i && not (has_supervisor s.regs.sr)) _ _ (λ e. entered_row i s s.start T.Privilege (refl, refl))
    (λ e. permitted_lawful i s row h)

-- the run with its opcode
abbrev opened : CpuRegs → Bool → ℕ → Run
opened r taking opcode = let s = moved (begun r taking) in record s { opcode = opcode; taking = false }

opcode_lawful : (r : CpuRegs) (taking : Bool) (opcode : ℕ) → opcode < 65536
    → Lawful (decode_of opcode) (opened r taking opcode) (execute (decode_of opcode) (opened r taking opcode))
opcode_lawful r taking opcode below = execute_lawful (decode_of opcode) (opened r taking opcode) (timed_at opcode below) (fits_at opcode below)

-- ---- instructions

-- the PC has no part in the outcome
outcome_of_moved : (i : Instr) (r : CpuRegs) (pc : ℕ) (ws : List ℕ) → outcome i (record r { pc = pc }) ws ≡ outcome i r ws
unfolding data_of
outcome_of_moved (I.MuluMuls w n (M.Dn k)) r pc ws = refl
outcome_of_moved i r pc ws = refl

one_more : (ws : List ℕ) → more (length ws) 1 ≡ suc (length ws)
one_more ws = let e : more (length ws) 1 ≡ length ws + 1 = more_sum (length ws) 1 in omega (arith, e)

-- behind its end an instruction or STOP's wait is under way
pub instruction_goes_on : (r : CpuRegs) (taking : Bool) (ws : List ℕ) (t : ℕ) (r' : CpuRegs) (u : Under) → AreWords ws
    → ComesTo (program r (U.Instruction taking)) ws (End t r' u) → GoesOn u
unfolding program instruction opcode_read
instruction_goes_on r taking [] t r' u words here = absurd (fetch_no_end (begun r taking) (λ opcode s. opcode_read opcode s) t r' u here)
instruction_goes_on r taking (opcode ∷ ws) t r' u words here =
    (opcode_lawful r taking opcode words.0).goes_on ws t r' u words.1
    (fetch_comes (begun r taking) (λ opcode s. opcode_read opcode s) opcode ws (End t r' u) here)

-- what takes its place is an exception, or the halt before the opcode was read
pub instruction_begins : (r : CpuRegs) (taking : Bool) (ws : List ℕ) (r' : CpuRegs) (u : Under) → AreWords ws
    → ComesTo (program r (U.Instruction taking)) ws (Enter r' u) → (e : ℕ) × (k : ℕ) × Begins (still_taking (U.Instruction taking) ws) e k u
unfolding program instruction opcode_read
instruction_begins r taking [] r' u words here =
    (0, 0, fetch_begins 0 0 (begun r taking) (λ opcode s. opcode_read opcode s) r' u here)
instruction_begins r taking (opcode ∷ ws) r' u words here = (
  trap_ea (decode_of opcode),
  _,
  (opcode_lawful r taking opcode words.0).begins ws r' u words.1
      (fetch_comes (begun r taking) (λ opcode s. opcode_read opcode s) opcode ws (Enter r' u) here),
)

pub instruction_time : InstructionTime
unfolding program instruction opcode_read
instruction_time r taking [] t r' u words here = fetch_no_end (begun r taking) (λ opcode s. opcode_read opcode s) t r' u here
instruction_time r taking (opcode ∷ ws) t r' u words here =
    let s : Run = opened r taking opcode in
    let then_on : ComesTo (execute (decode_of opcode) s) ws (End t r' u) =
    fetch_comes (begun r taking) (λ opcode s. opcode_read opcode s) opcode ws (End t r' u) here in
    let told : Takes t (more (length ws) 1) (number (clocks_at opcode) (outcome (decode_of opcode) s.regs ws)) =
    (opcode_lawful r taking opcode words.0).ends ws t r' u words.1 then_on in
    subst (λ k. Takes t k (number (clocks_at opcode) (outcome (decode_of opcode) r ws))) (one_more ws)
    (subst (λ x. Takes t (more (length ws) 1) (number (clocks_at opcode) x)) (outcome_of_moved (decode_of opcode) r _ ws) told)

-- ---- exceptions

-- none begins before the opcode is read
nothing_begun : (kind : Trap) (ea : ℕ) → is_address_error kind ≡ false → BeginsWith 0 0 kind ea → ⊥
nothing_begun (T.AddressError at opcode read program instruction) ea other h = cc
nothing_begun T.Trace ea other h = h
nothing_begun (T.Interrupt level) ea other h = h
nothing_begun T.ZeroDivide ea other h = omega (arith, h.1)
nothing_begun T.Chk ea other h = omega (arith, h.1)
nothing_begun T.Illegal ea other h = omega (arith, h.1)
nothing_begun T.Privilege ea other h = omega (arith, h.1)
nothing_begun T.LineA ea other h = omega (arith, h.1)
nothing_begun T.LineF ea other h = omega (arith, h.1)
nothing_begun T.Trapv ea other h = omega (arith, h.1)
nothing_begun (T.Number v) ea other h = omega (arith, h.1)

pub exception_time : ExceptionTime
unfolding program instruction opcode_read
exception_time r taking [] r' kind ea taking' vs t r'' u other words answers here there =
    nothing_begun kind ea other (fetch_begins 0 0 (begun r taking) (λ opcode s. opcode_read opcode s) r' (U.Entry kind ea taking') here)
exception_time r taking (opcode ∷ ws) r' kind ea taking' vs t r'' u other words answers here there =
    let s : Run = opened r taking opcode in
    let q : Prog = Enter r' (U.Entry kind ea taking') in
    let then_on : ComesTo (execute (decode_of opcode) s) ws q = fetch_comes (begun r taking) (λ opcode s. opcode_read opcode s) opcode ws q here in
    let told : BeginsWith (trap_ea (decode_of opcode)) (more (length ws) 1) kind ea =
    (opcode_lawful r taking opcode words.0).begins ws r' (U.Entry kind ea taking') words.1 then_on in
    exception_takes (decode_of opcode) (suc (length ws)) r' kind ea taking' vs t r'' u other
    (subst (λ k. BeginsWith (trap_ea (decode_of opcode)) k kind ea) (one_more ws) told) answers there

-- ---- the reset, and waiting

pub reset_time : ResetTime
reset_time = reset_takes

pub stopped_time : StoppedTime
unfolding program
stopped_time r [] t r' u here = (subst (λ q. Holds false (λ k l x. Takes x k 2) 0 0 0 q) here (serves_takes 0 2 refl, tt)).0
stopped_time r (w ∷ ws) t r' u here = absurd here
