use Rattle.std.proofs.Common.{◌≡◌, ◌≢◌, length, refl}
use Rattle.m68k_decode.specs.Access.{End, Enter, after, idle_clocks}
use Rattle.m68k_decode.specs.Walk.{stage, program, settled}
use Rattle.m68k_exec.proofs.Following.{settled_end, settled_idle, settled_enter, settled_rests}
use Rattle.m68k_exec.proofs.state.Cpu.settle_access.Goals as goal

pub returns-then-is_over : goal.returns-then-is_over
returns-then-is_over c = λ r u ws s.
    let over : after (program r u) ws ≡ End c.in-Ended.clocks c.args.self.now.machine.regs c.in-Ended.under =
    rw (← s.same) (rw c.in-Ended.is refl) in
    let none : idle_clocks c.in-Ended.clocks (length ws) ≡ 0 =
    c.is_over.ensures.over (length ws) s.done c.if-is_over.true in
    rw (settled_end _ r u ws c.args.level _ _ _ over none, ← s.traced) (c.pass_boundary.ensures _ _ c.in-Ended.is)

pub returns-else-is_over : goal.returns-else-is_over
returns-else-is_over c = λ r u ws s.
    let over : after (program r u) ws ≡ End c.in-Ended.clocks c.args.self.now.machine.regs c.in-Ended.under =
    rw (← s.same) (rw c.in-Ended.is refl) in
    let some : idle_clocks c.in-Ended.clocks (length ws) ≢ 0 =
    c.is_over.ensures.waits (length ws) s.done c.if-is_over.false in
    rw (settled_idle _ r u ws c.args.level _ _ _ over some) (record { stands = s; level = refl })

pub returns-in-Broken : goal.returns-in-Broken
returns-in-Broken c = λ r u ws s.
    let broken : after (program r u) ws ≡ Enter c.args.self.now.machine.regs c.in-Broken.under =
    rw (← s.same) (rw c.in-Broken.is refl) in
    rw (settled_enter _ r u ws c.args.level _ _ broken) c.start_or_replace.ensures

pub returns-in_default : goal.returns-in_default
returns-in_default c = λ r u ws s.
    let waits : settled (after (program r u) ws) r u ws c.args.level ≡ stage r u ws =
    rw (← s.same) (settled_rests _ _ _ r u ws c.args.level c.in_default.not-Ended c.in_default.not-Broken) in
    rw waits (record { stands = s; level = refl })
