-- The entries of exceptions, and the reset, take their clocks.
use Rattle.std.proofs.Common.{◌≡◌, ℕ, suc, ◌+◌, ◌-◌, ◌*◌, ◌/◌, ◌%◌, Bool, false, List, [], ◌∷◌, length, refl, sym, subst, arith}
use Rattle.m68k_opcodes.specs.declared.operand.Size.TheVariants as S
use Rattle.m68k_opcodes.specs.declared.operand.Mode.{Mode}
use Rattle.m68k_opcodes.specs.declared.operand.Mode.TheVariants as M
use Rattle.m68k_opcodes.specs.declared.instr.Instr.{Instr}
use Rattle.m68k_opcodes.specs.declared.instr.Instr.TheVariants as I
use Rattle.m68k_opcodes.specs.Modes.{ea}
use Rattle.m68k_decode.specs.declared.regs.CpuRegs.{CpuRegs}
use Rattle.m68k_decode.specs.declared.trap.Trap.{Trap}
use Rattle.m68k_decode.specs.declared.trap.Trap.TheVariants as T
use Rattle.m68k_decode.specs.declared.under.Under.{Under}
use Rattle.m68k_decode.specs.declared.under.Under.TheVariants as U
use Rattle.m68k_decode.specs.Frames.{frame_of}
use Rattle.m68k_decode.specs.Rows.{general_row}
use Rattle.m68k_decode.specs.RowResults.{trap_ea_by}
use Rattle.m68k_decode.specs.RowData.{trap_ea}
use Rattle.m68k_decode.specs.Access.{End}
use Rattle.m68k_decode.specs.Run.{Run, address_before}
use Rattle.m68k_decode.specs.Entries.{exception_clocks, entry_clocks, handled, vectored, pushes, entry, reset_done, reset_stack, reset}
use Rattle.m68k_decode.specs.Walk.{program}
use Rattle.m68k_time.specs.Time.{ComesTo, AreWords, Takes, GoesOn, colour_clocks, is_address_error, EntryTakes, AddressErrorTime, TraceTime, InterruptTime}
use Rattle.m68k_time.proofs.Fits.{more}
use Rattle.m68k_time.proofs.Counting.{BeginsWith, Holds, Anything, last_of, at_end, goes_on_at_end, more_sum, serves_takes}
use Rattle.m68k_time.proofs.Parts.{read_holds, write_word_holds}

-- one more for each word
abbrev each_word : List ℕ → ℕ → ℕ
each_word [] k = k
each_word (w ∷ ws) k = each_word ws (suc k)

pub pushes_hold : (P : ℕ → ℕ → ℕ → Type 0) (k l : ℕ) (kind : Trap) (ea at : ℕ) (ws : List ℕ) (s : Run)
    → ((w : ℕ) → P (suc (suc (each_word ws k))) w (entry_clocks kind ea)) → Holds s.taking P 0 k l (pushes kind ea at ws s)
unfolding pushes vectored handled
pushes_hold P k l kind ea at [] s h = read_holds P 0 k l _ S.Long false _ _ (λ pc w. (h w, tt))
pushes_hold P k l kind ea at (w ∷ ws) s h =
    write_word_holds P 0 k l s (address_before S.Word at) w _ (λ v. pushes_hold P (suc k) v kind ea (address_before S.Word at) ws s h)

-- the accesses of an entry: its frame is written, and its vector read
abbrev pub entry_accesses : Trap → ℕ
entry_accesses (T.AddressError at opcode read program instruction) = 9
entry_accesses _ = 5

accesses_are : (kind : Trap) (regs : CpuRegs) → suc (suc (each_word (frame_of kind regs) 0)) ≡ entry_accesses kind
accesses_are (T.AddressError at opcode read program instruction) regs = refl
accesses_are T.Illegal regs = refl
accesses_are T.Privilege regs = refl
accesses_are T.LineA regs = refl
accesses_are T.LineF regs = refl
accesses_are T.ZeroDivide regs = refl
accesses_are T.Chk regs = refl
accesses_are T.Trapv regs = refl
accesses_are T.Trace regs = refl
accesses_are (T.Interrupt level) regs = refl
accesses_are (T.Number v) regs = refl

-- at the end of an entry
pub entry_end : (r : CpuRegs) (kind : Trap) (ea : ℕ) (taking : Bool) (ws : List ℕ) (t : ℕ) (r' : CpuRegs) (u : Under) → AreWords ws
    → ComesTo (program r (U.Entry kind ea taking)) ws (End t r' u) → (length ws ≡ entry_accesses kind) × (t ≡ entry_clocks kind ea)
unfolding program entry
entry_end r kind ea taking ws t r' u words here =
    let P : ℕ → ℕ → ℕ → Type 0 = λ k l x. (k ≡ entry_accesses kind) × (x ≡ entry_clocks kind ea) in
    let h : P (more (length ws) 0) (last_of 0 ws) t = at_end taking P 0 0 0 _ ws t r' u
    (pushes_hold P 0 0 kind ea _ (frame_of kind r) _ (λ w. (accesses_are kind r, refl))) words here in
    let counted : more (length ws) 0 ≡ length ws + 0 = more_sum (length ws) 0 in
    let first : more (length ws) 0 ≡ entry_accesses kind = h.0 in
    (omega (arith, counted, first), h.1)

-- ---- entries after an instruction

alone : (kind : Trap) (number : ℕ) → ((ea : ℕ) → Takes (entry_clocks kind ea) (entry_accesses kind) number) → EntryTakes kind number
alone kind number h r ea taking ws t r' u words here =
    let e = entry_end r kind ea taking ws t r' u words here in
    subst (λ k. Takes t k number) (sym e.0) (subst (λ x. Takes x (entry_accesses kind) number) (sym e.1) (h ea))

pub address_error_time : AddressErrorTime
unfolding entry_clocks
address_error_time at opcode read program instruction =
    alone (T.AddressError at opcode read program instruction) 50 (λ ea. serves_takes 9 50 refl)

pub trace_time : TraceTime
unfolding entry_clocks
trace_time = alone T.Trace 34 (λ ea. serves_takes 5 34 refl)

pub interrupt_time : InterruptTime
unfolding entry_clocks
interrupt_time level = alone (T.Interrupt level) 44 (λ ea. serves_takes 5 44 refl)

-- ---- exceptions in place of an instruction, or at its end

even_ea : (m : Mode) → ea S.Word m % 2 ≡ 0
even_ea (M.Dn r) = refl
even_ea (M.An r) = refl
even_ea (M.Ind r) = refl
even_ea (M.Post r) = refl
even_ea (M.Pre r) = refl
even_ea (M.Disp r) = refl
even_ea (M.Index r) = refl
even_ea M.Short = refl
even_ea M.Long = refl
even_ea M.PcDisp = refl
even_ea M.PcIndex = refl
even_ea M.Imm = refl

even_trap_ea : (i : Instr) → trap_ea i % 2 ≡ 0
unfolding general_row trap_ea_by
even_trap_ea (I.DivuDivs w r m) = even_ea m
even_trap_ea (I.Chk r m) = even_ea m
even_trap_ea i = refl

-- the accesses before an entry, and the entry
abbrev Together : ℕ → ℕ → Trap → ℕ → Type 0
Together e k kind ea = 2 * (2 * k + colour_clocks (entry_clocks kind ea) (entry_accesses kind)) ≡ exception_clocks kind e

division_together : (e k ea : ℕ) → e % 2 ≡ 0 → (ea ≡ e) × (k ≡ 1 + ea / 4) → Together e k T.ZeroDivide ea
unfolding entry_clocks
division_together e k ea even h = omega (arith, even, h.0, h.1)

check_together : (e k ea : ℕ) → e % 2 ≡ 0 → (ea ≡ e) × (k ≡ 1 + ea / 4) → Together e k T.Chk ea
unfolding entry_clocks
check_together e k ea even h = omega (arith, even, h.0, h.1)

-- the other kinds, whose number is 34
plain_together : (k ea : ℕ) → (ea ≡ 0) × (k ≡ 1) → 2 * (2 * k + colour_clocks (34 - 4 * (1 + ea / 4)) 5) ≡ 34
plain_together k ea h = omega (arith, h.0, h.1)

together : (e k ea : ℕ) (kind : Trap) → e % 2 ≡ 0 → is_address_error kind ≡ false → BeginsWith e k kind ea → Together e k kind ea
unfolding entry_clocks
together e k ea (T.AddressError at opcode read program instruction) even other h = cc
together e k ea T.Trace even other h = absurd h
together e k ea (T.Interrupt level) even other h = absurd h
together e k ea T.ZeroDivide even other h = division_together e k ea even h
together e k ea T.Chk even other h = check_together e k ea even h
together e k ea T.Illegal even other h = plain_together k ea h
together e k ea T.Privilege even other h = plain_together k ea h
together e k ea T.LineA even other h = plain_together k ea h
together e k ea T.LineF even other h = plain_together k ea h
together e k ea T.Trapv even other h = plain_together k ea h
together e k ea (T.Number v) even other h = plain_together k ea h

pub exception_takes : (i : Instr) (k : ℕ) (r : CpuRegs) (kind : Trap) (ea : ℕ) (taking : Bool) (ws : List ℕ) (t : ℕ) (r' : CpuRegs) (u : Under)
    → is_address_error kind ≡ false → BeginsWith (trap_ea i) k kind ea → AreWords ws
    → ComesTo (program r (U.Entry kind ea taking)) ws (End t r' u) → 2 * (2 * k + colour_clocks t (length ws)) ≡ exception_clocks kind (trap_ea i)
exception_takes i k r kind ea taking ws t r' u other begins words here =
    let h = entry_end r kind ea taking ws t r' u words here in
    subst (λ n. 2 * (2 * k + colour_clocks t n) ≡ exception_clocks kind (trap_ea i)) (sym h.0)
    (subst (λ x. 2 * (2 * k + colour_clocks x (entry_accesses kind)) ≡ exception_clocks kind (trap_ea i)) (sym h.1)
    (together (trap_ea i) k ea kind (even_trap_ea i) other begins))

-- ---- the reset

pub reset_takes : (r : CpuRegs) (ws : List ℕ) (t : ℕ) (r' : CpuRegs) (u : Under) → AreWords ws
    → ComesTo (program r U.Reset) ws (End t r' u) → Takes t (length ws) 40
unfolding program reset reset_stack reset_done
reset_takes r ws t r' u words here =
    let P : ℕ → ℕ → ℕ → Type 0 = λ k l x. Takes x k 40 in
    let h : P (more (length ws) 0) (last_of 0 ws) t = at_end false P 0 0 0 _ ws t r' u
    (read_holds P 0 0 0 _ S.Long false 0 _ (λ ssp v. read_holds P 0 2 v _ S.Long false 4 _ (λ pc w. (serves_takes 4 40 refl, tt)))) words here in
    let counted : more (length ws) 0 ≡ length ws + 0 = more_sum (length ws) 0 in
    let same : more (length ws) 0 ≡ length ws = omega (arith, counted) in
    subst (λ k. Takes t k 40) same h

-- an instruction is under way behind it
pub reset_goes_on : (r : CpuRegs) (ws : List ℕ) (t : ℕ) (r' : CpuRegs) (u : Under) → AreWords ws
    → ComesTo (program r U.Reset) ws (End t r' u) → GoesOn u
unfolding program reset reset_stack reset_done
reset_goes_on r ws t r' u words here =
    goes_on_at_end false Anything 0 0 0 _ ws t r' u
    (read_holds Anything 0 0 0 _ S.Long false 0 _ (λ ssp v. read_holds Anything 0 2 v _ S.Long false 4 _ (λ pc w. (tt, tt)))) words here
