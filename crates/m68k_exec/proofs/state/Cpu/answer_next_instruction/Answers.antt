use Rattle.std.proofs.Common.{◌≡◌, refl}
use Rattle.m68k_decode.specs.Access.{End, after}
use Rattle.m68k_decode.specs.Walk.{program}
use Rattle.m68k_exec.proofs.Following.{advance_end}
use Rattle.m68k_exec.proofs.state.Cpu.answer_next_instruction.Goals as goal

pub returns-in-Ended-clause-answers : goal.returns-in-Ended-clause-answers
returns-in-Ended-clause-answers c = λ r u ws word s is.
    let over : after (program r u) ws ≡ End c.in-Ended.clocks c.args.self.now.machine.regs c.in-Ended.under =
    rw (← s.same) (rw c.in-Ended.is refl) in
    rw (advance_end r u ws word c.args.level _ _ _ over, ← s.traced) (c.pass_plain_boundary.ensures.passes _ _ c.in-Ended.is is)
