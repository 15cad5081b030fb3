-- The time of an instruction, by the walk alone.
use Rattle.std.proofs.Common.{◌≡◌, ℕ, Bool, List, [], ◌∷◌, length, sym, ap, subst, arith}
use Rattle.m68k_decode.specs.declared.regs.CpuRegs.{CpuRegs}
use Rattle.m68k_decode.specs.declared.under.Under.{Under}
use Rattle.m68k_decode.specs.declared.under.Under.TheVariants as U
use Rattle.m68k_decode.specs.Access.{Prog, Ask, End, Enter, Halt, Next, Asks, Ends, Halts, next_of, idle_clocks}
use Rattle.m68k_decode.specs.Walk.{program, next}
use Rattle.m68k_time.specs.Time.{ComesTo, AreWords, GoesOn, EndTakes, InstructionTakes, WalkTime}
use Rattle.m68k_time.proofs.Counting.{Begins}
use Rattle.m68k_time.proofs.Stages.{comes_after}
use Rattle.m68k_time.proofs.Whole.{instruction_time, instruction_begins}

idle_of : Next → ℕ
idle_of (Asks a) = 0
idle_of (Ends r idle u) = idle
idle_of Halts = 0

under_of : Next → Under
under_of (Asks a) = U.Reset
under_of (Ends r idle u) = u
under_of Halts = U.Reset

-- what takes the place of an instruction is no next one
broken_off : (taking : Bool) (e k : ℕ) (u : Under) → Begins taking e k u → GoesOn u → ⊥
broken_off taking e k U.Reset begins on = on
broken_off taking e k (U.Instruction still) begins on = begins
broken_off taking e k (U.Entry kind ea still) begins on = on
broken_off taking e k U.Stopped begins on = begins
broken_off taking e k U.Halted begins on = on

end_takes : (r : CpuRegs) (ws : List ℕ) (t idle : ℕ) → InstructionTakes r ws t → idle_clocks t (length ws) ≡ idle → EndTakes r ws idle
end_takes r [] t idle takes same = takes
end_takes r (opcode ∷ ws) t idle takes same = omega (arith, takes.time, same)

ends_as : (q : Prog) (r : CpuRegs) (taking : Bool) (ws : List ℕ) (r' : CpuRegs) (idle : ℕ) (u' : Under) → AreWords ws
    → ComesTo (program r (U.Instruction taking)) ws q → next_of q (length ws) ≡ Ends r' idle u' → GoesOn u' → EndTakes r ws idle
unfolding idle_of under_of
ends_as (Ask a k) r taking ws r' idle u' words here is on = cc
ends_as (End t s v) r taking ws r' idle u' words here is on =
    end_takes r ws t idle (instruction_time r taking ws t s v words here) (ap idle_of is)
ends_as (Enter s v) r taking ws r' idle u' words here is on =
    let begins = instruction_begins r taking ws s v words here in
    absurd (broken_off _ begins.0 begins.1 v begins.2 (subst GoesOn (sym (ap under_of is)) on))
ends_as Halt r taking ws r' idle u' words here is on = cc

pub walk_time : WalkTime
unfolding next
walk_time r taking ws r' idle u exact is on =
    ends_as exact.0 r taking ws r' idle u exact.2 exact.1
    (subst (λ q. next_of q (length ws) ≡ Ends r' idle u) (comes_after (program r (U.Instruction taking)) ws exact.0 exact.1) is) on
