-- The processor halts exactly where an address error comes while one is being taken.
use Rattle.std.proofs.Common.{◌≡◌, ℕ, ◌<◌, ◌%◌, ◌==◌, ◌⊎◌, Bool, true, false, if◌then◌else◌, nat_lt}
use Rattle.std.proofs.Common.{List, [], ◌∷◌, ◌++◌, length, Some, inl, inr, refl, ap, sym, subst, ◌∙◌}
use Rattle.m68k_decode.specs.declared.regs.CpuRegs.{CpuRegs}
use Rattle.m68k_decode.specs.declared.trap.Trap.{Trap}
use Rattle.m68k_decode.specs.declared.trap.Trap.TheVariants as T
use Rattle.m68k_decode.specs.declared.under.Under.{Under}
use Rattle.m68k_decode.specs.declared.under.Under.TheVariants as U
use Rattle.m68k_decode.specs.Frames.{frame_of}
use Rattle.m68k_decode.specs.Status.{mask_of}
use Rattle.m68k_decode.specs.Access.{Read, Prog, Ask, End, Enter, Halt, idle_clocks}
use Rattle.m68k_decode.specs.Run.{moved, fault, read_word, fetch}
use Rattle.m68k_decode.specs.Entries.{entry}
use Rattle.m68k_decode.specs.Walk.{Stage, stage, program, instruction, opcode_read, begun, entering, replaced}
use Rattle.m68k_decode.specs.Walk.{begin_again, begin, taking_of, is_traced, boundary, settled, answered, advance}
use Rattle.m68k_time.specs.Time.{ComesTo, AreWords, GoesOn, IsExact}
use Rattle.m68k_time.specs.Boundaries.{EndsNow, HasAddressError, IsDouble, ProgramHalts, at_end, BeginsNow, HaltsAtOnce, IsHaltedBy, WalkHalts}
use Rattle.m68k_time.proofs.Counting.{Anything, Begins, at_begin, goes_on_at_end}
use Rattle.m68k_time.proofs.Entries.{pushes_hold, reset_goes_on}
use Rattle.m68k_time.proofs.Whole.{instruction_goes_on, instruction_begins}
use Rattle.m68k_time.proofs.Stages.{comes_after, comes_on, more_words}
use Rattle.m68k_time.proofs.Back.{reset_unbroken}
use Rattle.m68k_time.proofs.LevelLaws.{is_zero, answered_on, advance_ends}
use Rattle.m68k_time.proofs.Twins.{ErrorAfter, halt_is_error, error_is_halt, entry_twins}

-- ---- an instruction

-- the first access of an instruction, which is odd or not
abbrev first : Bool → Bool → CpuRegs → (ℕ → Prog) → Prog
first odd taking r k =
    if odd then (if taking then Enter r U.Halted else Enter (record r { pc = r.pc }) (U.Entry (T.AddressError r.pc 0 true true true) 0 true))
    else Ask (Read r.pc false) k

first_halts : (odd taking : Bool) (r r' : CpuRegs) (k : ℕ → Prog) → first odd taking r k ≡ Enter r' U.Halted → (odd ≡ true) × (taking ≡ true)
first_halts true true r r' k here = (refl, refl)
first_halts true false r r' k here = cc
first_halts false taking r r' k here = cc

first_breaks : (odd taking : Bool) (r r' : CpuRegs) (u : Under) (k : ℕ → Prog) → first odd taking r k ≡ Enter r' u → odd ≡ true
first_breaks true taking r r' u k here = refl
first_breaks false taking r r' u k here = cc

instruction_first : (r : CpuRegs) (taking : Bool)
    → program r (U.Instruction taking) ≡ first (r.pc % 2 == 1) taking r (λ opcode. opcode_read opcode (moved (begun r taking)))
unfolding program instruction fetch read_word fault
instruction_first r taking = refl

odd_error : (r : CpuRegs) (taking : Bool) → r.pc % 2 == 1 ≡ true → HasAddressError r (U.Instruction taking) []
odd_error r taking odd =
    let k : ℕ → Prog = λ opcode. opcode_read opcode (moved (begun r false)) in
    record {
      at = r.pc;
      opcode = 0;
      read = true;
      program_space = true;
      instruction = true;
      regs = record r { pc = r.pc };
      comes = instruction_first r false ∙ ap (λ b. first b false r k) odd;
    }

instruction_halts : (r r' : CpuRegs) (taking : Bool) (ws : List ℕ) → AreWords ws → ComesTo (program r (U.Instruction taking)) ws (Enter r' U.Halted)
    → IsDouble r (U.Instruction taking) ws
instruction_halts r r' taking [] words here =
    let both = first_halts (r.pc % 2 == 1) taking r r' _ (sym (instruction_first r taking) ∙ here) in
    (both.1, odd_error r taking both.0)
instruction_halts r r' taking (w ∷ ws) words here =
    let begins = instruction_begins r taking (w ∷ ws) r' U.Halted words here in
    let wrong : false ≡ true = begins.2 in absurd cc

instruction_halted : (r : CpuRegs) (taking : Bool) (ws : List ℕ) → IsDouble r (U.Instruction taking) ws
    → ComesTo (program r (U.Instruction taking)) ws (Enter r U.Halted)
instruction_halted r taking [] double =
    let k : ℕ → Prog = λ opcode. opcode_read opcode (moved (begun r taking)) in
    let odd : r.pc % 2 == 1 ≡ true = first_breaks (r.pc % 2 == 1) false r double.1.regs _ _ (sym (instruction_first r false) ∙ double.1.comes) in
    instruction_first r taking ∙ ap (λ b. first b taking r k) odd ∙ ap (λ t. first true t r k) double.0
instruction_halted r taking (w ∷ ws) double = let wrong : false ≡ true = double.0 in absurd cc

-- ---- an entry

entry_begins : (r r' : CpuRegs) (kind : Trap) (ea : ℕ) (taking : Bool) (ws : List ℕ) (u : Under) → AreWords ws
    → ComesTo (program r (U.Entry kind ea taking)) ws (Enter r' u) → (k : ℕ) × Begins taking 0 k u
unfolding program entry
entry_begins r r' kind ea taking ws u words here =
    (_, at_begin taking Anything 0 0 0 _ ws r' u (pushes_hold Anything 0 0 kind ea _ (frame_of kind r) (entering r kind taking) (λ w. tt)) words here)

told : (r : CpuRegs) (kind : Trap) (ea : ℕ) (taking : Bool) (ws : List ℕ) → ErrorAfter (program r (U.Entry kind ea false)) ws
    → HasAddressError r (U.Entry kind ea taking) ws
told r kind ea taking ws e =
    record {
      at = e.at;
      opcode = e.opcode;
      read = e.read;
      program_space = e.program_space;
      instruction = e.instruction;
      regs = e.regs;
      comes = e.comes;
    }

entry_halts : (r r' : CpuRegs) (kind : Trap) (ea : ℕ) (taking : Bool) (ws : List ℕ) → AreWords ws
    → ComesTo (program r (U.Entry kind ea taking)) ws (Enter r' U.Halted) → IsDouble r (U.Entry kind ea taking) ws
entry_halts r r' kind ea true ws words here =
    (refl, told r kind ea true ws (halt_is_error r _ _ ws r' (entry_twins r kind ea) here))
entry_halts r r' kind ea false ws words here =
    let wrong : false ≡ true = (entry_begins r r' kind ea false ws U.Halted words here).1 in absurd cc

entry_halted : (r : CpuRegs) (kind : Trap) (ea : ℕ) (taking : Bool) (ws : List ℕ) → IsDouble r (U.Entry kind ea taking) ws
    → ComesTo (program r (U.Entry kind ea taking)) ws (Enter r U.Halted)
entry_halted r kind ea true ws double = error_is_halt r _ _ ws double.1.regs _ (entry_twins r kind ea) double.1.comes
entry_halted r kind ea false ws double = let wrong : false ≡ true = double.0 in absurd cc

-- ---- all that can be under way

never_taking : false ≡ true → ⊥
never_taking h = cc

stopped_unbroken : (r : CpuRegs) (ws : List ℕ) (r' : CpuRegs) (u : Under) → ComesTo (program r U.Stopped) ws (Enter r' u) → ⊥
unfolding program
stopped_unbroken r [] r' u here = cc
stopped_unbroken r (w ∷ ws) r' u here = here

halted_unbroken : (r : CpuRegs) (ws : List ℕ) (r' : CpuRegs) (u : Under) → ComesTo (program r U.Halted) ws (Enter r' u) → ⊥
unfolding program
halted_unbroken r [] r' u here = cc
halted_unbroken r (w ∷ ws) r' u here = here

is_double : (r r' : CpuRegs) (u : Under) (ws : List ℕ) → AreWords ws → ComesTo (program r u) ws (Enter r' U.Halted) → IsDouble r u ws
is_double r r' U.Reset ws words here = absurd (reset_unbroken r ws r' U.Halted here)
is_double r r' (U.Instruction taking) ws words here = instruction_halts r r' taking ws words here
is_double r r' (U.Entry kind ea taking) ws words here = entry_halts r r' kind ea taking ws words here
is_double r r' U.Stopped ws words here = absurd (stopped_unbroken r ws r' U.Halted here)
is_double r r' U.Halted ws words here = absurd (halted_unbroken r ws r' U.Halted here)

comes_to_halt : (r : CpuRegs) (u : Under) (ws : List ℕ) → IsDouble r u ws → ComesTo (program r u) ws (Enter r U.Halted)
comes_to_halt r U.Reset ws double = absurd (never_taking double.0)
comes_to_halt r (U.Instruction taking) ws double = instruction_halted r taking ws double
comes_to_halt r (U.Entry kind ea taking) ws double = entry_halted r kind ea taking ws double
comes_to_halt r U.Stopped ws double = absurd (never_taking double.0)
comes_to_halt r U.Halted ws double = absurd (never_taking double.0)

pub program_halts : ProgramHalts
program_halts r u ws words = (λ halts. is_double r halts.0 u ws words halts.1, λ double. (r, comes_to_halt r u ws double))

-- what is under way behind an end
abbrev end_under : Prog → Under
end_under (Ask a k) = U.Stopped
end_under (End t r u) = u
end_under (Enter r u) = U.Stopped
end_under Halt = U.Stopped

-- behind an end an instruction is under way, or STOP's wait
stopped_goes_on : (r : CpuRegs) (ws : List ℕ) (t : ℕ) (r' : CpuRegs) (u' : Under) → ComesTo (program r U.Stopped) ws (End t r' u') → GoesOn u'
unfolding program
stopped_goes_on r [] t r' u' here = subst (λ q. GoesOn (end_under q)) here tt
stopped_goes_on r (w ∷ ws) t r' u' here = absurd here

halted_unended : (r : CpuRegs) (ws : List ℕ) (t : ℕ) (r' : CpuRegs) (u' : Under) → ComesTo (program r U.Halted) ws (End t r' u') → ⊥
unfolding program
halted_unended r [] t r' u' here = cc
halted_unended r (w ∷ ws) t r' u' here = here

entry_goes_on : (r : CpuRegs) (kind : Trap) (ea : ℕ) (taking : Bool) (ws : List ℕ) (t : ℕ) (r' : CpuRegs) (u' : Under) → AreWords ws
    → ComesTo (program r (U.Entry kind ea taking)) ws (End t r' u') → GoesOn u'
unfolding program entry
entry_goes_on r kind ea taking ws t r' u' words here =
    goes_on_at_end taking Anything 0 0 0 _ ws t r' u' (pushes_hold Anything 0 0 kind ea _ (frame_of kind r) (entering r kind taking) (λ w. tt)) words here

goes_on : (r : CpuRegs) (u : Under) (ws : List ℕ) (t : ℕ) (r' : CpuRegs) (u' : Under) → AreWords ws → ComesTo (program r u) ws (End t r' u') → GoesOn u'
goes_on r U.Reset ws t r' u' words here = reset_goes_on r ws t r' u' words here
goes_on r (U.Instruction taking) ws t r' u' words here = instruction_goes_on r taking ws t r' u' words here
goes_on r (U.Entry kind ea taking) ws t r' u' words here = entry_goes_on r kind ea taking ws t r' u' words here
goes_on r U.Stopped ws t r' u' words here = stopped_goes_on r ws t r' u' here
goes_on r U.Halted ws t r' u' words here = absurd (halted_unended r ws t r' u' here)

-- ---- what begins

-- what is halted once it begins again
again_halts : (q : Prog) (r r' : CpuRegs) (u u' : Under) → program r u ≡ Enter r' u' → program r' u' ≡ q
    → (replaced q r' u' (λ s v. stage s v [])).under ≡ U.Halted → HaltsAtOnce r u
again_halts (Ask a k) r r' u u' broken is h = inl (is_double r r' u [] tt (broken ∙ ap (Enter r') h))
again_halts (End t s v) r r' u u' broken is h = inl (is_double r r' u [] tt (broken ∙ ap (Enter r') h))
again_halts (Enter s v) r r' u u' broken is h = inr (r', u', broken, is_double r' s u' [] tt (is ∙ ap (Enter s) h))
again_halts Halt r r' u u' broken is h = inl (is_double r r' u [] tt (broken ∙ ap (Enter r') h))

begun_halts : (p : Prog) (r : CpuRegs) (u : Under) → program r u ≡ p → (replaced p r u (λ s v. begin_again s v)).under ≡ U.Halted
    → (u ≡ U.Halted) ⊎ HaltsAtOnce r u
unfolding begin_again
begun_halts (Ask a k) r u is h = inl h
begun_halts (End t s v) r u is h = inl h
begun_halts (Enter s v) r u is h = inr (again_halts (program s v) r s u v is refl h)
begun_halts Halt r u is h = inl h

begin_halts : (r : CpuRegs) (u : Under) → (begin r u).under ≡ U.Halted → (u ≡ U.Halted) ⊎ HaltsAtOnce r u
unfolding begin
begin_halts r u h = begun_halts (program r u) r u refl h

begin_of_halt : (r : CpuRegs) → (begin r U.Halted).under ≡ U.Halted
unfolding begin program
begin_of_halt r = refl

again_of_halt : (r : CpuRegs) → (begin_again r U.Halted).under ≡ U.Halted
unfolding begin_again program
again_of_halt r = refl

begin_halted : (r : CpuRegs) (u : Under) → HaltsAtOnce r u → (begin r u).under ≡ U.Halted
unfolding begin begin_again
begin_halted r u (inl double) =
    ap (λ p. (replaced p r u (λ s v. begin_again s v)).under) (comes_to_halt r u [] double) ∙ again_of_halt r
begin_halted r u (inr second) =
    ap (λ p. (replaced p r u (λ s v. begin_again s v)).under) second.2
    ∙ ap (λ p. (replaced p second.0 second.1 (λ s v. stage s v [])).under) (comes_to_halt second.0 second.1 [] second.3)

-- ---- at an end

by_level : (b : Bool) (r : CpuRegs) (u : Under) (level : ℕ)
    → (if b then record (begin r (U.Entry (T.Interrupt level) 0 (taking_of u))) { begins = Some level } else begin r u).under
    ≡ (begin r (if b then U.Entry (T.Interrupt level) 0 (taking_of u) else u)).under
by_level true r u level = refl
by_level false r u level = refl

boundary_begins : (traced : Bool) (r : CpuRegs) (u : Under) (level : ℕ)
    → (boundary traced r u level).under ≡ (begin r (at_end traced r u level)).under
unfolding boundary
boundary_begins true r u level = refl
boundary_begins false r u level = by_level (nat_lt (mask_of r.sr) level) r u level

no_halt : (u : Under) → GoesOn u → u ≡ U.Halted → ⊥
no_halt U.Reset on is = on
no_halt (U.Instruction taking) on is = cc
no_halt (U.Entry kind ea taking) on is = on
no_halt U.Stopped on is = cc
no_halt U.Halted on is = on

interrupt_or : (b : Bool) (u : Under) (level : ℕ) → GoesOn u → (if b then U.Entry (T.Interrupt level) 0 (taking_of u) else u) ≡ U.Halted → ⊥
interrupt_or true u level on is = cc
interrupt_or false u level on is = no_halt u on is

no_halt_at_end : (traced : Bool) (r : CpuRegs) (u : Under) (level : ℕ) → GoesOn u → at_end traced r u level ≡ U.Halted → ⊥
no_halt_at_end true r u level on is = cc
no_halt_at_end false r u level on is = interrupt_or (nat_lt (mask_of r.sr) level) u level on is

at_once : (r : CpuRegs) (u : Under) → (u ≡ U.Halted → ⊥) → (u ≡ U.Halted) ⊎ HaltsAtOnce r u → HaltsAtOnce r u
at_once r u other (inl is) = absurd (other is)
at_once r u other (inr once) = once

-- ---- an answer

-- what begins with an answer and halts
abbrev BeginsAndHalts : CpuRegs → Under → List ℕ → ℕ → ℕ → Type 0
BeginsAndHalts r u ws w level = (r' : CpuRegs) × (u' : Under) × BeginsNow r u ws w level r' u' × HaltsAtOnce r' u'

ends_halt : (r : CpuRegs) (u : Under) (ws : List ℕ) (w level t : ℕ) (r' : CpuRegs) (u' : Under) → GoesOn u' → EndsNow r u ws w t r' u'
    → (boundary (is_traced r u) r' u' level).under ≡ U.Halted → BeginsAndHalts r u ws w level
ends_halt r u ws w level t r' u' on ended h =
    let next : Under = at_end (is_traced r u) r' u' level in
    let once : HaltsAtOnce r' next = at_once r' next (no_halt_at_end (is_traced r u) r' u' level on)
    (begin_halts r' next (sym (boundary_begins (is_traced r u) r' u' level) ∙ h)) in
    (r', next, inl (t, u', ended, refl), once)

-- what takes the place of what was under way, after these answers
broken_halts : (r : CpuRegs) (u : Under) (vs : List ℕ) (r' : CpuRegs) (u' : Under) → AreWords vs → ComesTo (program r u) vs (Enter r' u')
    → (begin r' u').under ≡ U.Halted → IsDouble r u vs ⊎ HaltsAtOnce r' u'
broken_halts r u vs r' u' words here h = step (begin_halts r' u' h)
  where
    step : (u' ≡ U.Halted) ⊎ HaltsAtOnce r' u' → IsDouble r u vs ⊎ HaltsAtOnce r' u'
    step (inl is) = inl (is_double r r' u vs words (subst (λ v. ComesTo (program r u) vs (Enter r' v)) is here))
    step (inr once) = inr once

before : (r : CpuRegs) (u : Under) (ws : List ℕ) (w level : ℕ) (r' : CpuRegs) (u' : Under) → ComesTo (program r u) ws (Enter r' u')
    → IsDouble r u ws ⊎ HaltsAtOnce r' u' → IsHaltedBy r u ws w level
before r u ws w level r' u' here (inl double) = inr (inl (inl double))
before r u ws w level r' u' here (inr once) = inr (inr (r', u', inr (inl here), once))

with_answer : (r : CpuRegs) (u : Under) (ws : List ℕ) (w level : ℕ) (r' : CpuRegs) (u' : Under) → ComesTo (program r u) (ws ++ w ∷ []) (Enter r' u')
    → IsDouble r u (ws ++ w ∷ []) ⊎ HaltsAtOnce r' u' → IsHaltedBy r u ws w level
with_answer r u ws w level r' u' here (inl double) = inr (inl (inr double))
with_answer r u ws w level r' u' here (inr once) = inr (inr (r', u', inr (inr here), once))

-- an end, or a stage that goes on
no_idle : (b : Bool) (x y : Stage) → (if b then x else y).under ≡ U.Halted → ((b ≡ true) × (x.under ≡ U.Halted)) ⊎ (y.under ≡ U.Halted)
no_idle true x y h = inl (refl, h)
no_idle false x y h = inr h

settled_halts : (p : Prog) (r : CpuRegs) (u : Under) (ws : List ℕ) (w level : ℕ) → AreWords (ws ++ w ∷ []) → ComesTo (program r u) (ws ++ w ∷ []) p
    → (settled p r u (ws ++ w ∷ []) level).under ≡ U.Halted → IsHaltedBy r u ws w level
unfolding settled
settled_halts (Ask a k) r u ws w level words here h = inl h
settled_halts (End t r' u') r u ws w level words here h =
    step (no_idle (idle_clocks t (length (ws ++ w ∷ [])) == 0) (boundary (is_traced r u) r' u' level) (stage r u (ws ++ w ∷ [])) h)
  where
    step : ((idle_clocks t (length (ws ++ w ∷ [])) == 0 ≡ true) × ((boundary (is_traced r u) r' u' level).under ≡ U.Halted)) ⊎ (u ≡ U.Halted)
        → IsHaltedBy r u ws w level
    step (inl now) =
        inr (inr (ends_halt r u ws w level t r' u' (goes_on r u (ws ++ w ∷ []) t r' u' words here) (inr (here, is_zero _ now.0)) now.1))
    step (inr is) = inl is
settled_halts (Enter r' u') r u ws w level words here h =
    with_answer r u ws w level r' u' here (broken_halts r u (ws ++ w ∷ []) r' u' words here h)
settled_halts Halt r u ws w level words here h = inl h

answered_halts : (q : Prog) (r : CpuRegs) (u : Under) (ws : List ℕ) (w level : ℕ) → w < 65536 → AreWords ws → ComesTo (program r u) ws q
    → (answered q r u ws w level).under ≡ U.Halted → IsHaltedBy r u ws w level
unfolding answered
answered_halts (Ask a k) r u ws w level below words here h =
    settled_halts (k w) r u ws w level (more_words ws w words below) (comes_on (program r u) ws w a k here) h
answered_halts (End t r' u') r u ws w level below words here h =
    inr (inr (ends_halt r u ws w level t r' u' (goes_on r u ws t r' u' words here) (inl here) h))
answered_halts (Enter r' u') r u ws w level below words here h =
    before r u ws w level r' u' here (broken_halts r u ws r' u' words here h)
answered_halts Halt r u ws w level below words here h = inl h

only_halted : (r : CpuRegs) (u : Under) (ws : List ℕ) (w level : ℕ) → w < 65536 → IsExact (stage r u ws)
    → (advance r u ws w level).under ≡ U.Halted → IsHaltedBy r u ws w level
unfolding advance
only_halted r u ws w level below exact h =
    answered_halts exact.0 r u ws w level below exact.2 exact.1
    (subst (λ p. (answered p r u ws w level).under ≡ U.Halted) (comes_after (program r u) ws exact.0 exact.1) h)

-- ---- and there it is halted

broken_after : (r : CpuRegs) (u : Under) (ws : List ℕ) (w level : ℕ) (r' : CpuRegs) (u' : Under)
    → ComesTo (program r u) ws (Enter r' u') ⊎ ComesTo (program r u) (ws ++ w ∷ []) (Enter r' u') → advance r u ws w level ≡ begin r' u'
unfolding advance answered settled
broken_after r u ws w level r' u' (inl here) =
    ap (λ p. answered p r u ws w level) (comes_after (program r u) ws (Enter r' u') here)
broken_after r u ws w level r' u' (inr here) = answered_on r u ws w level (Enter r' u') here

still_halted : (r : CpuRegs) (u : Under) (ws : List ℕ) (w level : ℕ) → u ≡ U.Halted → (advance r u ws w level).under ≡ U.Halted
unfolding advance program answered
still_halted r u ws w level is = subst (λ v. (advance r v ws w level).under ≡ U.Halted) (sym is) refl

double_halted : (r : CpuRegs) (u : Under) (ws : List ℕ) (w level : ℕ) → IsDouble r u ws ⊎ IsDouble r u (ws ++ w ∷ [])
    → (advance r u ws w level).under ≡ U.Halted
double_halted r u ws w level (inl double) =
    ap (λ s. s.under) (broken_after r u ws w level r U.Halted (inl (comes_to_halt r u ws double))) ∙ begin_of_halt r
double_halted r u ws w level (inr double) =
    ap (λ s. s.under) (broken_after r u ws w level r U.Halted (inr (comes_to_halt r u (ws ++ w ∷ []) double))) ∙ begin_of_halt r

begins_halted : (r : CpuRegs) (u : Under) (ws : List ℕ) (w level : ℕ) (r' : CpuRegs) (u' : Under) → BeginsNow r u ws w level r' u'
    → HaltsAtOnce r' u' → (advance r u ws w level).under ≡ U.Halted
begins_halted r u ws w level r' u' (inl ended) once =
    ap (λ s. s.under) (advance_ends r u ws w level ended.0 r' ended.1 ended.2)
    ∙ boundary_begins (is_traced r u) r' ended.1 level
    ∙ ap (λ v. (begin r' v).under) (sym ended.3)
    ∙ begin_halted r' u' once
begins_halted r u ws w level r' u' (inr broken) once =
    ap (λ s. s.under) (broken_after r u ws w level r' u' broken) ∙ begin_halted r' u' once

is_halted : (r : CpuRegs) (u : Under) (ws : List ℕ) (w level : ℕ) → IsHaltedBy r u ws w level → (advance r u ws w level).under ≡ U.Halted
is_halted r u ws w level (inl is) = still_halted r u ws w level is
is_halted r u ws w level (inr (inl double)) = double_halted r u ws w level double
is_halted r u ws w level (inr (inr begins)) = begins_halted r u ws w level begins.0 begins.1 begins.2 begins.3

pub walk_halts : WalkHalts
walk_halts r u ws w level below exact = (only_halted r u ws w level below exact, is_halted r u ws w level)
