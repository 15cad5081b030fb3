use Rattle.std.proofs.Common.{◌≡◌, length, refl}
use Rattle.m68k_decode.specs.Access.{End, after, idle_clocks}
use Rattle.m68k_decode.specs.Walk.{program}
use Rattle.m68k_exec.proofs.Following.{settled_end}
use Rattle.m68k_exec.proofs.state.Cpu.settle_next_instruction.Goals as goal

pub returns-then-is_over-clause-settles : goal.returns-then-is_over-clause-settles
returns-then-is_over-clause-settles c = λ r u ws s is.
    let over : after (program r u) ws ≡ End c.in-Ended.clocks c.args.self.now.machine.regs c.in-Ended.under =
    rw (← s.same) (rw c.in-Ended.is refl) in
    let none : idle_clocks c.in-Ended.clocks (length ws) ≡ 0 =
    c.is_over.ensures.over (length ws) s.done c.if-is_over.true in
    rw (settled_end _ r u ws c.args.level _ _ _ over none, ← s.traced) (c.pass_plain_boundary.ensures.passes _ _ c.in-Ended.is is)
