-- What holds at the ends of a program, by the accesses and the last answer before them.
use Rattle.std.proofs.Common.{◌≡◌, ℕ, zero, suc, ◌+◌, ◌*◌, ◌/◌, ◌%◌, ◌<◌, ◌≤◌, Bool, true, List, [], ◌∷◌, length, refl, subst, arith}
use Rattle.std.proofs.lemmas.Bool.Decides.{nat_tests}
use Rattle.m68k_decode.specs.declared.regs.CpuRegs.{CpuRegs}
use Rattle.m68k_decode.specs.declared.trap.Trap.{Trap}
use Rattle.m68k_decode.specs.declared.trap.Trap.TheVariants as T
use Rattle.m68k_decode.specs.declared.under.Under.{Under}
use Rattle.m68k_decode.specs.declared.under.Under.TheVariants as U
use Rattle.m68k_decode.specs.Access.{Prog, Ask, End, Enter, Halt}
use Rattle.m68k_time.specs.Time.{ComesTo, AreWords, Takes, GoesOn}
use Rattle.m68k_time.proofs.Fits.{more, serves}

-- An exception begins after the accesses that its clocks count: with the clocks of the operand's mode where it has them. No
-- trace and no interrupt begins in a program.
abbrev pub BeginsWith : ℕ → ℕ → Trap → ℕ → Type 0
BeginsWith e k (T.AddressError at opcode read program instruction) ea = Unit {0}
BeginsWith e k T.ZeroDivide ea = (ea ≡ e) × (k ≡ 1 + ea / 4)
BeginsWith e k T.Chk ea = (ea ≡ e) × (k ≡ 1 + ea / 4)
BeginsWith e k T.Trace ea = ⊥
BeginsWith e k (T.Interrupt level) ea = ⊥
BeginsWith e k kind ea = (ea ≡ 0) × (k ≡ 1)

-- what a program begins where it is broken off: an exception, or the halt while an address error is being taken
abbrev pub Begins : Bool → ℕ → ℕ → Under → Type 0
Begins taking e k (U.Entry kind ea still) = BeginsWith e k kind ea
Begins taking e k U.Halted = taking ≡ true
Begins taking e k U.Reset = ⊥
Begins taking e k (U.Instruction still) = ⊥
Begins taking e k U.Stopped = ⊥

-- After k accesses, the last answered with l, a program has only ends with P, behind which an instruction or STOP's wait is
-- under way, and only exceptions begin that count the
-- accesses before them and have e as the clocks of the operand's mode; and the halt only while an address error is being
-- taken.
abbrev pub Holds : Bool → (ℕ → ℕ → ℕ → Type 0) → ℕ → ℕ → ℕ → Prog → Type 0
Holds taking P e k l (Ask a c) = (w : ℕ) → w < 65536 → Holds taking P e (suc k) w (c w)
Holds taking P e k l (End t r u) = P k l t × GoesOn u
Holds taking P e k l (Enter r u) = Begins taking e k u
Holds taking P e k l Halt = Unit {0}

-- of each end
abbrev pub Anything : ℕ → ℕ → ℕ → Type 0
Anything k l t = Unit {0}

-- the last of some answers, or what was before them
abbrev pub last_of : ℕ → List ℕ → ℕ
last_of l [] = l
last_of l (w ∷ ws) = last_of w ws

-- so it holds at each end that it comes to
pub at_end : (taking : Bool) (P : ℕ → ℕ → ℕ → Type 0) (e k l : ℕ) (p : Prog) (ws : List ℕ) (t : ℕ) (r : CpuRegs) (u : Under)
    → Holds taking P e k l p → AreWords ws → ComesTo p ws (End t r u) → P (more (length ws) k) (last_of l ws) t
at_end taking P e k l p [] t r u h words here = (subst (λ q. Holds taking P e k l q) here h).0
at_end taking P e k l (Ask a c) (w ∷ ws) t r u h words here = at_end taking P e (suc k) w (c w) ws t r u (h w words.0) words.1 here
at_end taking P e k l (End t' r' u') (w ∷ ws) t r u h words here = absurd here
at_end taking P e k l (Enter r' u') (w ∷ ws) t r u h words here = absurd here
at_end taking P e k l Halt (w ∷ ws) t r u h words here = absurd here

pub goes_on_at_end : (taking : Bool) (P : ℕ → ℕ → ℕ → Type 0) (e k l : ℕ) (p : Prog) (ws : List ℕ) (t : ℕ) (r : CpuRegs) (u : Under)
    → Holds taking P e k l p → AreWords ws → ComesTo p ws (End t r u) → GoesOn u
goes_on_at_end taking P e k l p [] t r u h words here = (subst (λ q. Holds taking P e k l q) here h).1
goes_on_at_end taking P e k l (Ask a c) (w ∷ ws) t r u h words here =
    goes_on_at_end taking P e (suc k) w (c w) ws t r u (h w words.0) words.1 here
goes_on_at_end taking P e k l (End t' r' u') (w ∷ ws) t r u h words here = absurd here
goes_on_at_end taking P e k l (Enter r' u') (w ∷ ws) t r u h words here = absurd here
goes_on_at_end taking P e k l Halt (w ∷ ws) t r u h words here = absurd here

pub at_begin : (taking : Bool) (P : ℕ → ℕ → ℕ → Type 0) (e k l : ℕ) (p : Prog) (ws : List ℕ) (r : CpuRegs) (u : Under)
    → Holds taking P e k l p → AreWords ws → ComesTo p ws (Enter r u) → Begins taking e (more (length ws) k) u
at_begin taking P e k l p [] r u h words here = subst (λ q. Holds taking P e k l q) here h
at_begin taking P e k l (Ask a c) (w ∷ ws) r u h words here = at_begin taking P e (suc k) w (c w) ws r u (h w words.0) words.1 here
at_begin taking P e k l (End t' r' u') (w ∷ ws) r u h words here = absurd here
at_begin taking P e k l (Enter r' u') (w ∷ ws) r u h words here = absurd here
at_begin taking P e k l Halt (w ∷ ws) r u h words here = absurd here

pub more_sum : (n k : ℕ) → more n k ≡ n + k
more_sum zero k = omega arith
more_sum (suc n) k = let e : more n (suc k) ≡ n + suc k = more_sum n (suc k) in omega (arith, e)

-- a number that is even and enough leaves the rest of its half idle
pub takes : (t k : ℕ) → 4 * k ≤ t → t % 2 ≡ 0 → Takes t k t
takes t k enough even = record { clocks = refl; time = omega (arith, enough, even) }

pub served : (k t : ℕ) → serves k t ≡ true → (4 * k ≤ t) × (t % 2 ≡ 0)
served k t h = grind (arith, nat_tests, h)

pub serves_takes : (k t : ℕ) → serves k t ≡ true → Takes t k t
serves_takes k t h = let p = served k t h in takes t k p.0 p.1
