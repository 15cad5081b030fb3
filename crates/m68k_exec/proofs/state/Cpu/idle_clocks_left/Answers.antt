use Rattle.std.proofs.Common.{◌≡◌, ◌≢◌, length, refl}
use Rattle.m68k_decode.specs.Access.{End, after, idle_clocks}
use Rattle.m68k_decode.specs.Walk.{program}
use Rattle.m68k_exec.proofs.Following.{settled_idle}
use Rattle.m68k_exec.proofs.state.Cpu.idle_clocks_left.Goals as goal

pub returns-then-not-is_over-clause-settles : goal.returns-then-not-is_over-clause-settles
returns-then-not-is_over-clause-settles c = λ r u ws clocks level s is.
    let over : after (program r u) ws ≡ End c.in-Ended.clocks c.args.self.now.machine.regs c.in-Ended.under =
    rw (← s.same) (rw c.in-Ended.is refl) in
    let some : idle_clocks c.in-Ended.clocks (length ws) ≢ 0 =
    c.is_over.ensures.waits (length ws) s.done c.if-not-is_over.true in
    settled_idle _ r u ws level _ _ _ over some
