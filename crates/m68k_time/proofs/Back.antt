-- What a program comes to with one more answer, and the reset.
use Rattle.std.proofs.Common.{◌≡◌, ℕ, List, [], ◌∷◌, ◌++◌, refl, sym, ap}
use Rattle.m68k_decode.specs.declared.regs.CpuRegs.{CpuRegs}
use Rattle.m68k_decode.specs.declared.under.Under.{Under}
use Rattle.m68k_decode.specs.declared.under.Under.TheVariants as U
use Rattle.m68k_decode.specs.Status.{mask_of}
use Rattle.m68k_decode.specs.Access.{Access, Prog, Ask, End, Enter, Halt}
use Rattle.m68k_decode.specs.Run.{read, read_word}
use Rattle.m68k_decode.specs.Entries.{reset, reset_stack, reset_done}
use Rattle.m68k_decode.specs.Walk.{program}
use Rattle.m68k_time.specs.Time.{ComesTo}

-- before its last answer it asks
pub record Asked (p : Prog) (ws : List ℕ) (w : ℕ) (q : Prog) : Type 0 where
  pub access : Access
  pub then_on : ℕ → Prog
  pub here : ComesTo p ws (Ask access then_on)
  pub same : then_on w ≡ q

pub comes_back : (p : Prog) (ws : List ℕ) (w : ℕ) (q : Prog) → ComesTo p (ws ++ w ∷ []) q → Asked p ws w q
comes_back (Ask a k) [] w q here = record { access = a; then_on = k; here = refl; same = here }
comes_back (Ask a k) (v ∷ ws) w q here =
    let back = comes_back (k v) ws w q here in
    record { access = back.access; then_on = back.then_on; here = back.here; same = back.same }
comes_back (End t r u) [] w q here = absurd here
comes_back (End t r u) (v ∷ ws) w q here = absurd here
comes_back (Enter r u) [] w q here = absurd here
comes_back (Enter r u) (v ∷ ws) w q here = absurd here
comes_back Halt [] w q here = absurd here
comes_back Halt (v ∷ ws) w q here = absurd here

-- the mask of the registers at an end
abbrev end_mask : Prog → ℕ
end_mask (Ask a k) = 0
end_mask (End t r u) = mask_of r.sr
end_mask (Enter r u) = 0
end_mask Halt = 0

-- the reset leaves the greatest mask, and is not broken off
pub reset_mask : (r : CpuRegs) (ws : List ℕ) (t : ℕ) (r' : CpuRegs) (u : Under) → ComesTo (program r U.Reset) ws (End t r' u) → mask_of r'.sr ≡ 7
unfolding program reset reset_stack reset_done read read_word
reset_mask r [] t r' u here = cc
reset_mask r (a ∷ []) t r' u here = cc
reset_mask r (a ∷ b ∷ []) t r' u here = cc
reset_mask r (a ∷ b ∷ c ∷ []) t r' u here = cc
reset_mask r (a ∷ b ∷ c ∷ d ∷ []) t r' u here = sym (ap end_mask here)
reset_mask r (a ∷ b ∷ c ∷ d ∷ e ∷ ws) t r' u here = absurd here

pub reset_unbroken : (r : CpuRegs) (ws : List ℕ) (r' : CpuRegs) (u : Under) → ComesTo (program r U.Reset) ws (Enter r' u) → ⊥
unfolding program reset reset_stack reset_done read read_word
reset_unbroken r [] r' u here = cc
reset_unbroken r (a ∷ []) r' u here = cc
reset_unbroken r (a ∷ b ∷ []) r' u here = cc
reset_unbroken r (a ∷ b ∷ c ∷ []) r' u here = cc
reset_unbroken r (a ∷ b ∷ c ∷ d ∷ []) r' u here = cc
reset_unbroken r (a ∷ b ∷ c ∷ d ∷ e ∷ ws) r' u here = here
