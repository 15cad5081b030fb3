-- What an answer makes of the walk: where an interrupt begins, and where the processor halts.
use Rattle.std.specs.Prelude.{◌≡◌, ℕ, ◌⊎◌, ◌↔◌, ◌<◌, ◌≤◌, Bool, true, false, if◌then◌else◌, nat_lt, List, [], ◌∷◌, ◌++◌, length, Some}
use Rattle.m68k_decode.specs.declared.regs.CpuRegs.{CpuRegs}
use Rattle.m68k_decode.specs.declared.trap.Trap.TheVariants as T
use Rattle.m68k_decode.specs.declared.under.Under.{Under}
use Rattle.m68k_decode.specs.declared.under.Under.TheVariants as U
use Rattle.m68k_decode.specs.Status.{mask_of}
use Rattle.m68k_decode.specs.Access.{End, Enter, idle_clocks}
use Rattle.m68k_decode.specs.Walk.{stage, program, advance, is_traced, taking_of}
use Rattle.m68k_time.specs.Time.{ComesTo, AreWords, IsExact}

-- ---- the end of what is under way

-- What is under way ends with this answer: its idle clocks are over, or its last access is answered and leaves none.
abbrev pub EndsNow : CpuRegs → Under → List ℕ → ℕ → ℕ → CpuRegs → Under → Type 0
EndsNow r u ws w t r' u' =
    ComesTo (program r u) ws (End t r' u')
    ⊎ (ComesTo (program r u) (ws ++ w ∷ []) (End t r' u') × (idle_clocks t (length (ws ++ w ∷ [])) ≡ 0))

-- ---- interrupts

-- an instruction, the entry of an exception, and the wait of STOP, which ends at each clock
abbrev pub GivesWay : Under → Type 0
GivesWay U.Reset = ⊥
GivesWay (U.Instruction taking) = Unit {0}
GivesWay (U.Entry kind ea taking) = Unit {0}
GivesWay U.Stopped = Unit {0}
GivesWay U.Halted = ⊥

-- an interrupt begins with an answer: something ended, no trace follows it, and the level is above the mask
pub record Interrupted (r : CpuRegs) (u : Under) (ws : List ℕ) (w level : ℕ) : Type 0 where
  pub clocks : ℕ
  pub regs : CpuRegs
  pub under : Under
  pub ended : EndsNow r u ws w clocks regs under
  pub gives_way : GivesWay u
  pub untraced : is_traced r u ≡ false
  pub above : mask_of regs.sr < level

-- exactly then a level is answered, which is that of the clock
abbrev pub WalkInterrupts : Type 0
WalkInterrupts = (r : CpuRegs) (u : Under) (ws : List ℕ) (w level l : ℕ) → level ≤ 7 →
    IsExact (stage r u ws) →
    ((advance r u ws w level).begins ≡ Some l) ↔ ((l ≡ level) × Interrupted r u ws w level)

-- ---- the halt

-- Whether an address error is being taken after some answers: an instruction that begins while one is being taken takes
-- it until its opcode is read.
abbrev pub still_taking : Under → List ℕ → Bool
still_taking U.Reset ws = false
still_taking (U.Instruction taking) [] = taking
still_taking (U.Instruction taking) (w ∷ ws) = false
still_taking (U.Entry kind ea taking) ws = taking
still_taking U.Stopped ws = false
still_taking U.Halted ws = false

-- the same while none is being taken
abbrev pub untaken : Under → Under
untaken U.Reset = U.Reset
untaken (U.Instruction taking) = U.Instruction false
untaken (U.Entry kind ea taking) = U.Entry kind ea false
untaken U.Stopped = U.Stopped
untaken U.Halted = U.Halted

-- an address error comes after some answers: if none were being taken, its entry would begin
pub record HasAddressError (r : CpuRegs) (u : Under) (ws : List ℕ) : Type 0 where
  pub at : ℕ
  pub opcode : ℕ
  pub read : Bool
  pub program_space : Bool
  pub instruction : Bool
  pub regs : CpuRegs
  pub comes : ComesTo (program r (untaken u)) ws (Enter regs (U.Entry (T.AddressError at opcode read program_space instruction) 0 true))

-- an address error comes while one is being taken
abbrev pub IsDouble : CpuRegs → Under → List ℕ → Type 0
IsDouble r u ws = (still_taking u ws ≡ true) × HasAddressError r u ws

-- exactly there a program comes to the halt
abbrev pub ProgramHalts : Type 0
ProgramHalts = (r : CpuRegs) (u : Under) (ws : List ℕ) → AreWords ws →
    ((r' : CpuRegs) × ComesTo (program r u) ws (Enter r' U.Halted)) ↔ IsDouble r u ws

-- what begins at an end: the trace where one follows, else an interrupt above the mask, else what is under way next
abbrev pub at_end : Bool → CpuRegs → Under → ℕ → Under
at_end traced r u level =
    if traced then U.Entry T.Trace 0 (taking_of u)
    else (if nat_lt (mask_of r.sr) level then U.Entry (T.Interrupt level) 0 (taking_of u) else u)

-- This begins with an answer, with these registers: something ended, and this follows; or what was under way is broken off
-- for it.
abbrev pub BeginsNow : CpuRegs → Under → List ℕ → ℕ → ℕ → CpuRegs → Under → Type 0
BeginsNow r u ws w level r' u' =
    ((t : ℕ) × (under : Under) × EndsNow r u ws w t r' under × (u' ≡ at_end (is_traced r u) r' under level))
    ⊎ (ComesTo (program r u) ws (Enter r' u') ⊎ ComesTo (program r u) (ws ++ w ∷ []) (Enter r' u'))

-- What begins halts at once: its first access is to an odd address while an address error is being taken; or its address
-- error begins in its place, and that of its entry's first access is the second.
abbrev pub HaltsAtOnce : CpuRegs → Under → Type 0
HaltsAtOnce r u =
    IsDouble r u []
    ⊎ ((r' : CpuRegs) × (u' : Under) × ComesTo (program r u) [] (Enter r' u') × IsDouble r' u' [])

-- The processor is halted after an answer exactly where it was halted, or where an address error comes while one is being
-- taken: to what is under way, or to what begins with the answer.
abbrev pub IsHaltedBy : CpuRegs → Under → List ℕ → ℕ → ℕ → Type 0
IsHaltedBy r u ws w level =
    (u ≡ U.Halted)
    ⊎ ((IsDouble r u ws ⊎ IsDouble r u (ws ++ w ∷ []))
    ⊎ ((r' : CpuRegs) × (u' : Under) × BeginsNow r u ws w level r' u' × HaltsAtOnce r' u'))

abbrev pub WalkHalts : Type 0
WalkHalts = (r : CpuRegs) (u : Under) (ws : List ℕ) (w level : ℕ) → w < 65536 → IsExact (stage r u ws) →
    ((advance r u ws w level).under ≡ U.Halted) ↔ IsHaltedBy r u ws w level
