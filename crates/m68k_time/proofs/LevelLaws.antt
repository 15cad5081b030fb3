-- A level is answered exactly where an instruction, an entry or a clock of STOP ended, and it is above the mask.
use Rattle.std.proofs.Common.{◌≡◌, ℕ, ◌<◌, ◌≤◌, ◌==◌, Bool, true, false, if◌then◌else◌, nat_lt, List, [], ◌∷◌}
use Rattle.std.proofs.Common.{◌++◌, length, Option, Some, None, inl, inr, refl, ap, sym, subst, ◌∙◌, arith}
use Rattle.std.proofs.lemmas.Bool.Decides.{nat_tests}
use Rattle.m68k_decode.specs.declared.regs.CpuRegs.{CpuRegs}
use Rattle.m68k_decode.specs.declared.trap.Trap.TheVariants as T
use Rattle.m68k_decode.specs.declared.under.Under.{Under}
use Rattle.m68k_decode.specs.declared.under.Under.TheVariants as U
use Rattle.m68k_decode.specs.Status.{mask_of}
use Rattle.m68k_decode.specs.Access.{Prog, Ask, End, Enter, Halt, idle_clocks}
use Rattle.m68k_decode.specs.Walk.{Stage, stage, program, replaced, begin_again, begin, taking_of, is_traced, boundary, settled, answered, advance}
use Rattle.m68k_time.specs.Time.{ComesTo, IsExact}
use Rattle.m68k_time.specs.Boundaries.{EndsNow, GivesWay, Interrupted, WalkInterrupts}
use Rattle.m68k_time.proofs.Back.{comes_back, reset_mask}
use Rattle.m68k_time.proofs.Stages.{comes_after, comes_on}

some_is : (a b : ℕ) → Some a ≡ Some b → a ≡ b
some_is a b h = cc

none_is : (a : ℕ) (o : Option ℕ) → o ≡ None → o ≡ Some a → ⊥
none_is a o none some = cc

-- no interrupt begins with what begins by itself
replaced_none : (p : Prog) (r : CpuRegs) (u : Under) (k : CpuRegs → Under → Stage) → ((r' : CpuRegs) (u' : Under) → (k r' u').begins ≡ None)
    → (replaced p r u k).begins ≡ None
replaced_none (Enter r' u') r u k h = h r' u'
replaced_none (Ask a j) r u k h = refl
replaced_none (End t r' u') r u k h = refl
replaced_none Halt r u k h = refl

again_none : (r : CpuRegs) (u : Under) → (begin_again r u).begins ≡ None
unfolding begin_again
again_none r u = replaced_none (program r u) r u (λ r' u'. stage r' u' []) (λ r' u'. refl)

begin_none : (r : CpuRegs) (u : Under) → (begin r u).begins ≡ None
unfolding begin
begin_none r u = replaced_none (program r u) r u (λ r' u'. begin_again r' u') again_none

-- ---- at an end

lower : (a b : ℕ) → nat_lt a b ≡ true → a < b
lower a b h = grind (arith, nat_tests, h)

is_lower : (a b : ℕ) → a < b → nat_lt a b ≡ true
is_lower a b h = grind (arith, nat_tests, h)

-- the choice of an interrupt
chosen : (b : Bool) (x y : Stage) (level l : ℕ) → x.begins ≡ Some level → y.begins ≡ None → (if b then x else y).begins ≡ Some l
    → (b ≡ true) × (l ≡ level)
chosen true x y level l some none h = (refl, some_is l level (sym h ∙ some))
chosen false x y level l some none h = absurd (none_is l y.begins none h)

-- no trace follows
not_traced : (b : Bool) (x y : Stage) (l : ℕ) → x.begins ≡ None → (if b then x else y).begins ≡ Some l → (b ≡ false) × (y.begins ≡ Some l)
not_traced true x y l none h = absurd (none_is l x.begins none h)
not_traced false x y l none h = (refl, h)

boundary_begins : (traced : Bool) (r : CpuRegs) (u : Under) (level l : ℕ) → (boundary traced r u level).begins ≡ Some l
    → (l ≡ level) × (traced ≡ false) × (mask_of r.sr < level)
unfolding boundary
boundary_begins traced r u level l h =
    let interrupt : Stage = record (begin r (U.Entry (T.Interrupt level) 0 (taking_of u))) { begins = Some level } in
    let untraced = not_traced traced (begin r (U.Entry T.Trace 0 (taking_of u)))
    (if nat_lt (mask_of r.sr) level then interrupt else begin r u) l (begin_none r (U.Entry T.Trace 0 (taking_of u))) h in
    let taken = chosen (nat_lt (mask_of r.sr) level) interrupt (begin r u) level l refl (begin_none r u) untraced.1 in
    (taken.1, untraced.0, lower (mask_of r.sr) level taken.0)

interrupts_at : (b : Bool) (x y : Stage) (level : ℕ) → b ≡ true → x.begins ≡ Some level → (if b then x else y).begins ≡ Some level
interrupts_at true x y level e h = h
interrupts_at false x y level e h = cc

boundary_interrupts : (traced : Bool) (r : CpuRegs) (u : Under) (level : ℕ) → traced ≡ false → mask_of r.sr < level
    → (boundary traced r u level).begins ≡ Some level
unfolding boundary
boundary_interrupts true r u level e above = cc
boundary_interrupts false r u level e above =
    let interrupt : Stage = record (begin r (U.Entry (T.Interrupt level) 0 (taking_of u))) { begins = Some level } in
    interrupts_at (nat_lt (mask_of r.sr) level) interrupt (begin r u) level (is_lower (mask_of r.sr) level above) refl

-- ---- an answer

-- the end with which a level is answered
record Ended (r : CpuRegs) (u : Under) (ws : List ℕ) (w level l : ℕ) : Type 0 where
  clocks : ℕ
  regs : CpuRegs
  under : Under
  ended : EndsNow r u ws w clocks regs under
  begins : (boundary (is_traced r u) regs under level).begins ≡ Some l

pub is_zero : (n : ℕ) → n == 0 ≡ true → n ≡ 0
is_zero n h = grind (arith, nat_tests, h)

zero_is : (n : ℕ) → n ≡ 0 → n == 0 ≡ true
zero_is n h = grind (arith, nat_tests, h)

-- with the last access, where it leaves no idle clock
with_access : (b : Bool) (x y : Stage) (l : ℕ) → y.begins ≡ None → (if b then x else y).begins ≡ Some l → (b ≡ true) × (x.begins ≡ Some l)
with_access true x y l none h = (refl, h)
with_access false x y l none h = absurd (none_is l y.begins none h)

settled_ends : (p : Prog) (r : CpuRegs) (u : Under) (ws : List ℕ) (w level l : ℕ) → ComesTo (program r u) (ws ++ w ∷ []) p
    → (settled p r u (ws ++ w ∷ []) level).begins ≡ Some l → Ended r u ws w level l
unfolding settled
settled_ends (Ask a k) r u ws w level l here h = absurd (none_is l None refl h)
settled_ends (End t r' u') r u ws w level l here h =
    let idle : ℕ = idle_clocks t (length (ws ++ w ∷ [])) in
    let now = with_access (idle == 0) (boundary (is_traced r u) r' u' level) (stage r u (ws ++ w ∷ [])) l refl h in
    record { clocks = t; regs = r'; under = u'; ended = inr (here, is_zero idle now.0); begins = now.1 }
settled_ends (Enter r' u') r u ws w level l here h = absurd (none_is l (begin r' u').begins (begin_none r' u') h)
settled_ends Halt r u ws w level l here h = absurd (none_is l None refl h)

answered_ends : (q : Prog) (r : CpuRegs) (u : Under) (ws : List ℕ) (w level l : ℕ) → ComesTo (program r u) ws q
    → (answered q r u ws w level).begins ≡ Some l → Ended r u ws w level l
unfolding answered
answered_ends (Ask a k) r u ws w level l here h = settled_ends (k w) r u ws w level l (comes_on (program r u) ws w a k here) h
answered_ends (End t r' u') r u ws w level l here h = record { clocks = t; regs = r'; under = u'; ended = inl here; begins = h }
answered_ends (Enter r' u') r u ws w level l here h = absurd (none_is l (begin r' u').begins (begin_none r' u') h)
answered_ends Halt r u ws w level l here h = absurd (none_is l None refl h)

-- the reset masks all levels, and a halt has no end
gives_way : (r : CpuRegs) (u : Under) (ws : List ℕ) (t : ℕ) (r' : CpuRegs) (u' : Under) (level : ℕ) → level ≤ 7 → mask_of r'.sr < level
    → ComesTo (program r u) ws (End t r' u') → GivesWay u
unfolding program
gives_way r U.Reset ws t r' u' level least above here = let greatest : mask_of r'.sr ≡ 7 = reset_mask r ws t r' u' here in omega (arith, least, above, greatest)
gives_way r (U.Instruction taking) ws t r' u' level least above here = tt
gives_way r (U.Entry kind ea taking) ws t r' u' level least above here = tt
gives_way r U.Stopped ws t r' u' level least above here = tt
gives_way r U.Halted [] t r' u' level least above here = cc
gives_way r U.Halted (w ∷ ws) t r' u' level least above here = here

way_given : (r : CpuRegs) (u : Under) (ws : List ℕ) (w t : ℕ) (r' : CpuRegs) (u' : Under) (level : ℕ) → level ≤ 7 → mask_of r'.sr < level
    → EndsNow r u ws w t r' u' → GivesWay u
way_given r u ws w t r' u' level least above (inl here) = gives_way r u ws t r' u' level least above here
way_given r u ws w t r' u' level least above (inr now) = gives_way r u (ws ++ w ∷ []) t r' u' level least above now.0

interrupted : (r : CpuRegs) (u : Under) (ws : List ℕ) (w level l : ℕ) → level ≤ 7 → Ended r u ws w level l
    → (l ≡ level) × Interrupted r u ws w level
interrupted r u ws w level l least e =
    let taken = boundary_begins (is_traced r u) e.regs e.under level l e.begins in (
      taken.0,
      record {
        clocks = e.clocks;
        regs = e.regs;
        under = e.under;
        ended = e.ended;
        gives_way = way_given r u ws w e.clocks e.regs e.under level least taken.2 e.ended;
        untraced = taken.1;
        above = taken.2;
      },
    )

-- ---- and where something ends, an answer is what follows the end

chosen_first : (b : Bool) (x y : Stage) → b ≡ true → (if b then x else y) ≡ x
chosen_first true x y e = refl
chosen_first false x y e = cc

pub settled_end : (r : CpuRegs) (u : Under) (ws : List ℕ) (level t : ℕ) (r' : CpuRegs) (u' : Under) → idle_clocks t (length ws) ≡ 0
    → settled (End t r' u') r u ws level ≡ boundary (is_traced r u) r' u' level
unfolding settled
settled_end r u ws level t r' u' none =
    chosen_first (idle_clocks t (length ws) == 0) (boundary (is_traced r u) r' u' level) (stage r u ws) (zero_is (idle_clocks t (length ws)) none)

-- one more answer settles what the program comes to
pub answered_on : (r : CpuRegs) (u : Under) (ws : List ℕ) (w level : ℕ) (q : Prog) → ComesTo (program r u) (ws ++ w ∷ []) q
    → advance r u ws w level ≡ settled q r u (ws ++ w ∷ []) level
unfolding advance answered
answered_on r u ws w level q here =
    let back = comes_back (program r u) ws w q here in
    ap (λ p. answered p r u ws w level) (comes_after (program r u) ws (Ask back.access back.then_on) back.here)
    ∙ ap (λ p. settled p r u (ws ++ w ∷ []) level) back.same

pub advance_ends : (r : CpuRegs) (u : Under) (ws : List ℕ) (w level t : ℕ) (r' : CpuRegs) (u' : Under) → EndsNow r u ws w t r' u'
    → advance r u ws w level ≡ boundary (is_traced r u) r' u' level
unfolding advance answered
advance_ends r u ws w level t r' u' (inl here) =
    ap (λ p. answered p r u ws w level) (comes_after (program r u) ws (End t r' u') here)
advance_ends r u ws w level t r' u' (inr now) =
    answered_on r u ws w level (End t r' u') now.0 ∙ settled_end r u (ws ++ w ∷ []) level t r' u' now.1

begins_interrupt : (r : CpuRegs) (u : Under) (ws : List ℕ) (w level : ℕ) → Interrupted r u ws w level → (advance r u ws w level).begins ≡ Some level
begins_interrupt r u ws w level i =
    ap (λ s. s.begins) (advance_ends r u ws w level i.clocks i.regs i.under i.ended)
    ∙ boundary_interrupts (is_traced r u) i.regs i.under level i.untraced i.above

only_interrupted : (r : CpuRegs) (u : Under) (ws : List ℕ) (w level l : ℕ) → level ≤ 7 → IsExact (stage r u ws)
    → (advance r u ws w level).begins ≡ Some l → (l ≡ level) × Interrupted r u ws w level
unfolding advance
only_interrupted r u ws w level l least exact h =
    interrupted r u ws w level l least (answered_ends exact.0 r u ws w level l exact.1
    (subst (λ p. (answered p r u ws w level).begins ≡ Some l) (comes_after (program r u) ws exact.0 exact.1) h))

pub walk_interrupts : WalkInterrupts
walk_interrupts r u ws w level l least exact =
    (only_interrupted r u ws w level l least exact, λ both. begins_interrupt r u ws w level both.1 ∙ ap Some (sym both.0))
