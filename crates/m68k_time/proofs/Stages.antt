-- The ends of the law are those of the processor's walk.
use Rattle.std.proofs.Common.{◌≡◌, ℕ, ◌<◌, ◌==◌, Bool, true, false, if◌then◌else◌, nat_lt, List, [], ◌∷◌, ◌++◌, length, Some, refl, ap, sym, subst}
use Rattle.m68k_decode.specs.declared.regs.CpuRegs.{CpuRegs}
use Rattle.m68k_decode.specs.declared.trap.Trap.TheVariants as T
use Rattle.m68k_decode.specs.declared.under.Under.{Under}
use Rattle.m68k_decode.specs.declared.under.Under.TheVariants as U
use Rattle.m68k_decode.specs.Status.{mask_of}
use Rattle.m68k_decode.specs.Access.{Access, Prog, Ask, End, Enter, Halt, after, next_of, idle_clocks}
use Rattle.m68k_decode.specs.Walk.{Stage, stage, program, next, replaced, begin_again, begin, taking_of, is_traced, boundary, settled, answered, advance}
use Rattle.m68k_time.specs.Time.{ComesTo, AreWords, WalkEnds, WalkBreaksOff, IsExact, WalkBegins, WalkGoesOn}

pub comes_after : (p : Prog) (ws : List ℕ) (q : Prog) → ComesTo p ws q → after p ws ≡ q
comes_after (Ask a k) [] q here = here
comes_after (End t r u) [] q here = here
comes_after (Enter r u) [] q here = here
comes_after Halt [] q here = here
comes_after (Ask a k) (w ∷ ws) q here = comes_after (k w) ws q here
comes_after (End t r u) (w ∷ ws) q here = absurd here
comes_after (Enter r u) (w ∷ ws) q here = absurd here
comes_after Halt (w ∷ ws) q here = absurd here

pub walk_ends : WalkEnds
unfolding next
walk_ends r u ws t r' u' here = ap (λ q. next_of q (length ws)) (comes_after (program r u) ws (End t r' u') here)

pub walk_breaks_off : WalkBreaksOff
unfolding next
walk_breaks_off r u ws r' u' here = ap (λ q. next_of q (length ws)) (comes_after (program r u) ws (Enter r' u') here)

-- ---- one more answer

pub comes_on : (p : Prog) (ws : List ℕ) (w : ℕ) (a : Access) (k : ℕ → Prog) → ComesTo p ws (Ask a k) → ComesTo p (ws ++ w ∷ []) (k w)
comes_on p [] w a k here = subst (λ q. ComesTo q (w ∷ []) (k w)) (sym here) refl
comes_on (Ask b j) (v ∷ ws) w a k here = comes_on (j v) ws w a k here
comes_on (End t r u) (v ∷ ws) w a k here = absurd here
comes_on (Enter r u) (v ∷ ws) w a k here = absurd here
comes_on Halt (v ∷ ws) w a k here = absurd here

pub more_words : (ws : List ℕ) (w : ℕ) → AreWords ws → w < 65536 → AreWords (ws ++ w ∷ [])
more_words [] w words below = (below, tt)
more_words (v ∷ ws) w words below = (words.0, more_words ws w words.1 below)

-- ---- what begins

exact_choice : (b : Bool) (x y : Stage) → IsExact x → IsExact y → IsExact (if b then x else y)
exact_choice true x y p q = p
exact_choice false x y p q = q

replaced_exact : (p : Prog) (r : CpuRegs) (u : Under) (k : CpuRegs → Under → Stage) → ((r' : CpuRegs) (u' : Under) → IsExact (k r' u'))
    → IsExact (replaced p r u k)
replaced_exact (Enter r' u') r u k h = h r' u'
replaced_exact (Ask a j) r u k h = (program r u, refl, tt)
replaced_exact (End t r' u') r u k h = (program r u, refl, tt)
replaced_exact Halt r u k h = (program r u, refl, tt)

again_exact : (r : CpuRegs) (u : Under) → IsExact (begin_again r u)
unfolding begin_again
again_exact r u = replaced_exact (program r u) r u (λ r' u'. stage r' u' []) (λ r' u'. (program r' u', refl, tt))

pub walk_begins : WalkBegins
unfolding begin
walk_begins r u = replaced_exact (program r u) r u (λ r' u'. begin_again r' u') again_exact

boundary_exact : (traced : Bool) (r : CpuRegs) (u : Under) (level : ℕ) → IsExact (boundary traced r u level)
unfolding boundary
boundary_exact traced r u level =
    let interrupt : Under = U.Entry (T.Interrupt level) 0 (taking_of u) in
    let e : IsExact (begin r interrupt) = walk_begins r interrupt in
    exact_choice traced _ _ (walk_begins r (U.Entry T.Trace 0 (taking_of u)))
    (exact_choice (nat_lt (mask_of r.sr) level) (record (begin r interrupt) { begins = Some level }) _ (e.0, e.1, e.2) (walk_begins r u))

-- ---- what an answer makes of a stage

settled_exact : (p : Prog) (r : CpuRegs) (u : Under) (ws : List ℕ) (level : ℕ) → ComesTo (program r u) ws p → AreWords ws → IsExact (settled p r u ws level)
unfolding settled
settled_exact (Ask a k) r u ws level here words = (Ask a k, here, words)
settled_exact (End t r' u') r u ws level here words =
    exact_choice (idle_clocks t (length ws) == 0) _ _ (boundary_exact (is_traced r u) r' u' level) (End t r' u', here, words)
settled_exact (Enter r' u') r u ws level here words = walk_begins r' u'
settled_exact Halt r u ws level here words = (Halt, here, words)

answered_exact : (q : Prog) (r : CpuRegs) (u : Under) (ws : List ℕ) (w level : ℕ) → w < 65536 → ComesTo (program r u) ws q → AreWords ws
    → IsExact (answered q r u ws w level)
unfolding answered
answered_exact (Ask a k) r u ws w level below here words =
    settled_exact (k w) r u (ws ++ w ∷ []) level (comes_on (program r u) ws w a k here) (more_words ws w words below)
answered_exact (End t r' u') r u ws w level below here words = boundary_exact (is_traced r u) r' u' level
answered_exact (Enter r' u') r u ws w level below here words = walk_begins r' u'
answered_exact Halt r u ws w level below here words = (Halt, here, words)

pub walk_goes_on : WalkGoesOn
unfolding advance
walk_goes_on r u ws w level below exact =
    subst (λ q. IsExact (answered q r u ws w level)) (sym (comes_after (program r u) ws exact.0 exact.1))
    (answered_exact exact.0 r u ws w level below exact.1 exact.2)
