-- What an answer does to what is left of a walk.
use Rattle.std.proofs.Common.{◌≡◌, ◌≢◌, ℕ, List, [], ◌∷◌, ◌++◌, length, false, ◌==◌, refl, ne_eqb, ◌∙◌}
use Rattle.m68k_opcodes.specs.declared.instr.Instr.{Instr}
use Rattle.m68k_decode.specs.declared.regs.CpuRegs.{CpuRegs}
use Rattle.m68k_decode.specs.declared.under.Under.{Under}
use Rattle.m68k_decode.specs.Access.{Prog, Ask, End, Enter, Halt, after, idle_clocks}
use Rattle.m68k_decode.specs.Run.{Run}
use Rattle.m68k_decode.specs.Walk.{Stage, stage, program, replaced, begin, begin_again, boundary, is_traced, settled, answered, advance}
use Rattle.m68k_exec.specs.declared.state.Cpu.{Cpu}
use Rattle.m68k_exec.specs.declared.state.Step.{Step}
use Rattle.m68k_exec.specs.declared.state.Step.TheVariants as T
use Rattle.m68k_exec.specs.Meaning.{meaning, rest, follow}
use Rattle.m68k_exec.specs.Stands.{Stands, is_halted_step}

after_none : (p : Prog) → after p [] ≡ p
after_none (End t r u) = refl
after_none (Enter r u) = refl
after_none Halt = refl
after_none (Ask a k) = refl

pub after_more : (p : Prog) (ws : List ℕ) (w : ℕ) → after p (ws ++ w ∷ []) ≡ follow (after p ws) w
after_more (End t r u) ws w = refl
after_more (Enter r u) ws w = refl
after_more Halt ws w = refl
after_more (Ask a k) [] w = after_none (k w)
after_more (Ask a k) (v ∷ ws) w = after_more (k v) ws w

-- ---- what is settled after an access

-- an end without idle clocks
pub settled_end : (p : Prog) (r : CpuRegs) (u : Under) (ws : List ℕ) (level t : ℕ) (r' : CpuRegs) (u' : Under) → p ≡ End t r' u'
    → idle_clocks t (length ws) ≡ 0 → settled p r u ws level ≡ boundary (is_traced r u) r' u' level
unfolding settled
settled_end p r u ws level t r' u' e none = rw (e, none) refl

-- an end with idle clocks before it
pub settled_idle : (p : Prog) (r : CpuRegs) (u : Under) (ws : List ℕ) (level t : ℕ) (r' : CpuRegs) (u' : Under) → p ≡ End t r' u'
    → idle_clocks t (length ws) ≢ 0 → settled p r u ws level ≡ stage r u ws
unfolding settled
settled_idle p r u ws level t r' u' e some =
    let not_none : (idle_clocks t (length ws) == 0) ≡ false = ne_eqb _ _ some in
    rw (e, not_none) refl

pub settled_enter : (p : Prog) (r : CpuRegs) (u : Under) (ws : List ℕ) (level : ℕ) (r' : CpuRegs) (u' : Under) → p ≡ Enter r' u'
    → settled p r u ws level ≡ begin r' u'
unfolding settled
settled_enter p r u ws level r' u' e = rw e refl

-- what waits for an access, and what is halted
pub settled_rests : (step : Step) (i : Instr) (run : Run) (r : CpuRegs) (u : Under) (ws : List ℕ) (level : ℕ) → ((t : ℕ) (v : Under) → step ≡ T.Ended t v → ⊥)
    → ((v : Under) → step ≡ T.Broken v → ⊥) → settled (rest step i run) r u ws level ≡ stage r u ws
unfolding settled
settled_rests (T.Fetch part) i run r u ws level a b = refl
settled_rests (T.ReadByte at into) i run r u ws level a b = refl
settled_rests (T.ReadWord at into) i run r u ws level a b = refl
settled_rests (T.ReadHigh at program into) i run r u ws level a b = refl
settled_rests (T.ReadLow at high into) i run r u ws level a b = refl
settled_rests (T.WriteByte at byte follows) i run r u ws level a b = refl
settled_rests (T.WriteWord at word follows) i run r u ws level a b = refl
settled_rests (T.WriteHigh at high low follows) i run r u ws level a b = refl
settled_rests (T.Push at word next kind ea) i run r u ws level a b = refl
settled_rests (T.Ended t v) i run r u ws level a b = absurd (a t v refl)
settled_rests (T.Broken v) i run r u ws level a b = absurd (b v refl)
settled_rests T.Halted i run r u ws level a b = refl

-- ---- what an answer makes of it

-- an answer to what is no end settles what follows it
answered_on : (step : Step) (i : Instr) (run : Run) (r : CpuRegs) (u : Under) (ws : List ℕ) (w level : ℕ) → ((t : ℕ) (v : Under) → step ≡ T.Ended t v → ⊥)
    → is_halted_step step ≡ false → answered (rest step i run) r u ws w level ≡ settled (follow (rest step i run) w) r u (ws ++ w ∷ []) level
unfolding settled answered
answered_on (T.Fetch part) i run r u ws w level a b = refl
answered_on (T.ReadByte at into) i run r u ws w level a b = refl
answered_on (T.ReadWord at into) i run r u ws w level a b = refl
answered_on (T.ReadHigh at program into) i run r u ws w level a b = refl
answered_on (T.ReadLow at high into) i run r u ws w level a b = refl
answered_on (T.WriteByte at byte follows) i run r u ws w level a b = refl
answered_on (T.WriteWord at word follows) i run r u ws w level a b = refl
answered_on (T.WriteHigh at high low follows) i run r u ws w level a b = refl
answered_on (T.Push at word next kind ea) i run r u ws w level a b = refl
answered_on (T.Ended t v) i run r u ws w level a b = absurd (a t v refl)
answered_on (T.Broken v) i run r u ws w level a b = refl
answered_on T.Halted i run r u ws w level a b = cc

pub advance_on : (step : Step) (i : Instr) (run : Run) (r : CpuRegs) (u : Under) (ws : List ℕ) (w level : ℕ) → rest step i run ≡ after (program r u) ws
    → ((t : ℕ) (v : Under) → step ≡ T.Ended t v → ⊥) → is_halted_step step ≡ false
    → advance r u ws w level ≡ settled (after (program r u) (ws ++ w ∷ [])) r u (ws ++ w ∷ []) level
unfolding advance
advance_on step i run r u ws w level same a b =
    rw (after_more (program r u) ws w, ← same) (answered_on step i run r u ws w level a b)

pub advance_end : (r : CpuRegs) (u : Under) (ws : List ℕ) (w level t : ℕ) (r' : CpuRegs) (u' : Under) → after (program r u) ws ≡ End t r' u'
    → advance r u ws w level ≡ boundary (is_traced r u) r' u' level
unfolding advance answered
advance_end r u ws w level t r' u' e = rw e refl

-- ---- what begins

pub replaced_rests : (step : Step) (i : Instr) (run : Run) (r : CpuRegs) (u : Under) (k : CpuRegs → Under → Stage) → ((v : Under) → step ≡ T.Broken v → ⊥)
    → replaced (rest step i run) r u k ≡ stage r u []
replaced_rests (T.Fetch part) i run r u k b = refl
replaced_rests (T.ReadByte at into) i run r u k b = refl
replaced_rests (T.ReadWord at into) i run r u k b = refl
replaced_rests (T.ReadHigh at program into) i run r u k b = refl
replaced_rests (T.ReadLow at high into) i run r u k b = refl
replaced_rests (T.WriteByte at byte follows) i run r u k b = refl
replaced_rests (T.WriteWord at word follows) i run r u k b = refl
replaced_rests (T.WriteHigh at high low follows) i run r u k b = refl
replaced_rests (T.Push at word next kind ea) i run r u k b = refl
replaced_rests (T.Ended t v) i run r u k b = refl
replaced_rests (T.Broken v) i run r u k b = absurd (b v refl)
replaced_rests T.Halted i run r u k b = refl

-- what a processor that has just begun stands for
begun : (c : Cpu) (r : CpuRegs) (u : Under) → Stands c r u [] → meaning c.context c.machine ≡ program r u
begun c r u s = s.same ∙ after_none (program r u)

pub begin_again_rests : (c : Cpu) (r : CpuRegs) (u : Under) → Stands c r u [] → ((v : Under) → c.machine.step ≡ T.Broken v → ⊥) → begin_again r u ≡ stage r u []
unfolding begin_again
begin_again_rests c r u s b = rw (← begun c r u s) (replaced_rests c.machine.step _ _ r u _ b)

pub begin_again_broken : (c : Cpu) (r : CpuRegs) (u v : Under) → Stands c r u [] → c.machine.step ≡ T.Broken v → begin_again r u ≡ stage c.machine.regs v []
unfolding begin_again
begin_again_broken c r u v s e = rw (← begun c r u s, e) refl

pub begin_rests : (c : Cpu) (r : CpuRegs) (u : Under) → Stands c r u [] → ((v : Under) → c.machine.step ≡ T.Broken v → ⊥) → begin r u ≡ stage r u []
unfolding begin
begin_rests c r u s b = rw (← begun c r u s) (replaced_rests c.machine.step _ _ r u _ b)

pub begin_broken : (c : Cpu) (r : CpuRegs) (u v : Under) → Stands c r u [] → c.machine.step ≡ T.Broken v → begin r u ≡ begin_again c.machine.regs v
unfolding begin
begin_broken c r u v s e = rw (← begun c r u s, e) refl
