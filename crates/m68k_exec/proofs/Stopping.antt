-- A processor that has made no access ends only where STOP has stopped it.
use Rattle.std.proofs.Common.{◌≡◌, ℕ, suc, ◌%◌, Bool, true, false, ◌&&◌, ◌==◌, if◌then◌else◌, List, [], ◌∷◌, length, min, refl, ap, ◌∙◌, sym, arith}
use Rattle.std.proofs.lemmas.Bool.Decides.{nat_tests}
use Rattle.m68k_opcodes.specs.declared.instr.Instr.{Instr}
use Rattle.m68k_decode.specs.declared.regs.CpuRegs.{CpuRegs}
use Rattle.m68k_decode.specs.declared.under.Under.{Under}
use Rattle.m68k_decode.specs.declared.under.Under.TheVariants as U
use Rattle.m68k_decode.specs.Access.{Prog, Ask, End, Enter, Halt, after}
use Rattle.m68k_decode.specs.Entries.{entry, pushes, reset}
use Rattle.m68k_decode.specs.Run.{Run, fault, read_word, fetch, read, write_word}
use Rattle.m68k_decode.specs.Walk.{program, instruction}
use Rattle.m68k_exec.specs.declared.state.Cpu.{Cpu}
use Rattle.m68k_exec.specs.declared.state.Step.{Step}
use Rattle.m68k_exec.specs.declared.state.Step.TheVariants as T
use Rattle.m68k_exec.specs.Meaning.{rest}
use Rattle.m68k_exec.specs.Stands.{Stands}
use Rattle.m68k_exec.specs.Stopped.{is_stopped, stands_stopped, is_end, is_end_step}

step_ends : (step : Step) (i : Instr) (s : Run) → is_end (rest step i s) ≡ is_end_step step
step_ends (T.Fetch part) i s = refl
step_ends (T.ReadByte at into) i s = refl
step_ends (T.ReadWord at into) i s = refl
step_ends (T.ReadHigh at p into) i s = refl
step_ends (T.ReadLow at high into) i s = refl
step_ends (T.WriteByte at byte follows) i s = refl
step_ends (T.WriteWord at word follows) i s = refl
step_ends (T.WriteHigh at high low follows) i s = refl
step_ends (T.Push at word next kind ea) i s = refl
step_ends (T.Ended clocks under) i s = refl
step_ends (T.Broken under) i s = refl
step_ends T.Halted i s = refl

if_ends : (b : Bool) (x y : Prog) → is_end x ≡ false → is_end y ≡ false → is_end (if b then x else y) ≡ false
if_ends true x y first second = first
if_ends false x y first second = second

fault_is_no_end : (s : Run) (at : ℕ) (r p : Bool) → is_end (fault s at r p) ≡ false
unfolding fault
fault_is_no_end s at r p = if_ends s.taking _ _ refl refl

read_is_no_end : (s : Run) (p : Bool) (at : ℕ) (k : ℕ → Prog) → is_end (read_word s p at k) ≡ false
unfolding read_word
read_is_no_end s p at k = if_ends (at % 2 == 1) _ _ (fault_is_no_end s at true p) refl

write_is_no_end : (s : Run) (at word : ℕ) (p : Prog) → is_end (write_word s at word p) ≡ false
unfolding write_word
write_is_no_end s at word p = if_ends (at % 2 == 1) _ _ (fault_is_no_end s at false false) refl

program_ends : (r : CpuRegs) (u : Under) → is_end (program r u) ≡ is_stopped u
unfolding program instruction entry pushes reset read fetch
program_ends r U.Reset = read_is_no_end _ _ _ _
program_ends r (U.Instruction taking) = read_is_no_end _ _ _ _
program_ends r (U.Entry kind ea taking) = write_is_no_end _ _ _ _
program_ends r U.Stopped = refl
program_ends r U.Halted = refl

after_nothing : (p : Prog) → is_end (after p []) ≡ is_end p
after_nothing (Ask a k) = refl
after_nothing (End t r u) = refl
after_nothing (Enter r u) = refl
after_nothing Halt = refl

none_done : (done : ℕ) (b : Bool) → done ≡ 0 → ((done == 0) && b) ≡ b
none_done done b none = ap (λ n. (n == 0) && b) none

some_done : (done n : ℕ) (b : Bool) → done ≡ min (suc n) 4294967295 → ((done == 0) && b) ≡ false
some_done done n b some =
    let some_made : (done == 0) ≡ false = grind (arith, nat_tests) in
    ap (λ x. x && b) some_made

pub stopped_as_it_stands : (c : Cpu) (r : CpuRegs) (u : Under) (ws : List ℕ) → Stands c r u ws
    → ((c.done == 0) && is_end_step c.machine.step) ≡ stands_stopped u ws
stopped_as_it_stands c r u [] s =
    none_done c.done (is_end_step c.machine.step) (s.done)
    ∙ sym (step_ends c.machine.step _ _)
    ∙ ap is_end s.same
    ∙ after_nothing (program r u)
    ∙ program_ends r u
stopped_as_it_stands c r u (w ∷ ws) s = some_done c.done (length ws) _ s.done

-- one that has made no access
pub none_made : (c : Cpu) (r : CpuRegs) (u : Under) (ws : List ℕ) (b : Bool) → Stands c r u ws → c.done ≡ 0
    → is_end_step c.machine.step ≡ b → b ≡ stands_stopped u ws
none_made c r u ws b s none ends =
    sym ends
    ∙ sym (none_done c.done (is_end_step c.machine.step) none)
    ∙ stopped_as_it_stands c r u ws s

pub not_ended : (step : Step) → ((clocks : ℕ) → (under : Under) → step ≡ T.Ended clocks under → ⊥) → is_end_step step ≡ false
not_ended (T.Fetch part) other = refl
not_ended (T.ReadByte at into) other = refl
not_ended (T.ReadWord at into) other = refl
not_ended (T.ReadHigh at p into) other = refl
not_ended (T.ReadLow at high into) other = refl
not_ended (T.WriteByte at byte follows) other = refl
not_ended (T.WriteWord at word follows) other = refl
not_ended (T.WriteHigh at high low follows) other = refl
not_ended (T.Push at word next kind ea) other = refl
not_ended (T.Ended clocks under) other = absurd (other clocks under refl)
not_ended (T.Broken under) other = refl
not_ended T.Halted other = refl
