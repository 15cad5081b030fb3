-- What is to be shown of what follows an opcode, and how it follows from what holds at the ends of a program.
use Rattle.std.proofs.Common.{◌≡◌, ℕ, ◌+◌, ◌*◌, ◌/◌, ◌%◌, ◌≤◌, Bool, true, false, if◌then◌else◌, List, length, refl, ap, sym, subst, arith}
use Rattle.std.proofs.lemmas.Bool.Decides.{nat_tests}
use Rattle.std.proofs.Math.Nat.{mul_assoc, mul-le-mul_right}
use Rattle.m68k_opcodes.proofs.Table.{both}
use Rattle.m68k_opcodes.specs.declared.instr.Instr.{Instr}
use Rattle.m68k_opcodes.specs.Clocks.{Clocks, Always, Counted, Outcomes, Exception, number}
use Rattle.m68k_opcodes.specs.Table.{clocks_at}
use Rattle.m68k_decode.specs.declared.regs.CpuRegs.{CpuRegs}
use Rattle.m68k_decode.specs.declared.under.Under.{Under}
use Rattle.m68k_decode.specs.Access.{Prog, End, Enter}
use Rattle.m68k_decode.specs.Run.{Run}
use Rattle.m68k_decode.specs.RowData.{trap_ea}
use Rattle.m68k_time.specs.Time.{ComesTo, AreWords, Takes, GoesOn, outcome}
use Rattle.m68k_time.proofs.Fits.{more, serves, always_serves, counted_serves}
use Rattle.m68k_time.proofs.Counting.{Begins, Holds, at_end, goes_on_at_end, at_begin, served, serves_takes, takes}

-- What follows the opcode of a run takes the clocks of the opcode's row at each end, an instruction or STOP's wait is under way
-- behind it, and exceptions begin after the accesses that their clocks count.
pub record Lawful (i : Instr) (s : Run) (p : Prog) : Type 0 where
  pub ends : (ws : List ℕ) (t : ℕ) (r : CpuRegs) (u : Under) → AreWords ws → ComesTo p ws (End t r u)
      → Takes t (more (length ws) 1) (number (clocks_at s.opcode) (outcome i s.regs ws))
  pub goes_on : (ws : List ℕ) (t : ℕ) (r : CpuRegs) (u : Under) → AreWords ws → ComesTo p ws (End t r u) → GoesOn u
  pub begins : (ws : List ℕ) (r : CpuRegs) (u : Under) → AreWords ws → ComesTo p ws (Enter r u) → Begins s.taking (trap_ea i) (more (length ws) 1) u

-- clocks that depend on nothing
abbrev pub Same : Run → ℕ → ℕ → ℕ → Type 0
Same s k l t = (x : ℕ) → Takes t k (number (clocks_at s.opcode) x)

pub lawful_same : (i : Instr) (s : Run) (p : Prog) → Holds s.taking (Same s) (trap_ea i) 1 0 p → Lawful i s p
lawful_same i s p h =
    record {
      ends = λ ws t r u words here. at_end s.taking (Same s) (trap_ea i) 1 0 p ws t r u h words here (outcome i s.regs ws);
      goes_on = λ ws t r u words here. goes_on_at_end s.taking (Same s) (trap_ea i) 1 0 p ws t r u h words here;
      begins = λ ws r u words here. at_begin s.taking (Same s) (trap_ea i) 1 0 p ws r u h words here;
    }

-- clocks of one outcome
abbrev pub With : Run → ℕ → ℕ → ℕ → ℕ → Type 0
With s x k l t = Takes t k (number (clocks_at s.opcode) x)

pub lawful_with : (i : Instr) (s : Run) (p : Prog) (x : ℕ) → ((ws : List ℕ) → outcome i s.regs ws ≡ x)
    → Holds s.taking (With s x) (trap_ea i) 1 0 p → Lawful i s p
lawful_with i s p x all h =
    record {
      ends = λ ws t r u words here. subst (λ y. Takes t (more (length ws) 1) (number (clocks_at s.opcode) y)) (sym (all ws))
          (at_end s.taking (With s x) (trap_ea i) 1 0 p ws t r u h words here);
      goes_on = λ ws t r u words here. goes_on_at_end s.taking (With s x) (trap_ea i) 1 0 p ws t r u h words here;
      begins = λ ws r u words here. at_begin s.taking (With s x) (trap_ea i) 1 0 p ws r u h words here;
    }

pub lawful_choice : (i : Instr) (s : Run) (b : Bool) (p q : Prog) → (b ≡ true → Lawful i s p) → (b ≡ false → Lawful i s q) → Lawful i s (if b then p else q)
lawful_choice i s true p q x y = x refl
lawful_choice i s false p q x y = y refl

-- ---- clocks

pub always_takes : (k : ℕ) (c : Clocks) → always_serves k c ≡ true → (x y : ℕ) → Takes (number c x) k (number c y)
always_takes k (Always t) h x y = serves_takes k t h
always_takes k (Counted t each) h x y = cc
always_takes k (Outcomes ts) h x y = cc
always_takes k Exception h x y = cc

serves_fewer : (j k t : ℕ) → j ≤ k → serves k t ≡ true → serves j t ≡ true
serves_fewer j k t less h = grind (arith, nat_tests, less, h)

pub always_fewer : (j k : ℕ) (c : Clocks) → j ≤ k → always_serves k c ≡ true → always_serves j c ≡ true
always_fewer j k (Always t) less h = serves_fewer j k t less h
always_fewer j k (Counted t each) less h = cc
always_fewer j k (Outcomes ts) less h = cc
always_fewer j k Exception less h = cc

each_enough : (t each k j x : ℕ) → 4 * k ≤ t → 4 * j ≤ each → 4 * (k + j * x) ≤ t + each * x
each_enough t each k j x a b =
    let scaled : 4 * j * x ≤ each * x = mul-le-mul_right x b in
    let moved : 4 * j * x ≡ 4 * (j * x) = mul_assoc 4 j x in
    omega (arith, a, scaled, moved)

each_even : (t each x : ℕ) → t % 2 ≡ 0 → each % 2 ≡ 0 → (t + each * x) % 2 ≡ 0
each_even t each x a b =
    let half : each ≡ 2 * (each / 2) = omega (arith, b) in
    let scaled : each * x ≡ 2 * (each / 2) * x = ap (λ n. n * x) half in
    let moved : 2 * (each / 2) * x ≡ 2 * (each / 2 * x) = mul_assoc 2 (each / 2) x in
    omega (arith, a, scaled, moved)

each_takes : (t each k j x : ℕ) → serves k t ≡ true → serves j each ≡ true → Takes (t + each * x) (k + j * x) (t + each * x)
each_takes t each k j x a b =
    let p = served k t a in
    let q = served j each b in
    takes (t + each * x) (k + j * x) (each_enough t each k j x p.0 q.0) (each_even t each x p.1 q.1)

pub counted_takes : (k j : ℕ) (c : Clocks) → counted_serves k j c ≡ true → (x : ℕ) → Takes (number c x) (k + j * x) (number c x)
counted_takes k j (Always t) h x = cc
counted_takes k j (Counted t each) h x = let p = both (serves k t) (serves j each) h in each_takes t each k j x p.0 p.1
counted_takes k j (Outcomes ts) h x = cc
counted_takes k j Exception h x = cc
