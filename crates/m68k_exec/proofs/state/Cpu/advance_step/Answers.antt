use Rattle.std.proofs.Common.{◌≡◌, ℕ, List, [], ◌∷◌, ◌++◌, refl}
use Rattle.m68k_decode.specs.Access.{End, after}
use Rattle.m68k_decode.specs.Walk.{program}
use Rattle.m68k_exec.proofs.Following.{advance_on, advance_end}
use Rattle.m68k_exec.proofs.state.Cpu.advance_step.Goals as goal

pub returns-in-Ended : goal.returns-in-Ended
returns-in-Ended c = λ r u ws s.
    let over : after (program r u) ws ≡ End c.in-Ended.clocks c.args.self.now.machine.regs c.in-Ended.under =
    rw (← s.same) (rw c.in-Ended.is refl) in
    rw (advance_end r u ws c.args.word c.args.level _ _ _ over, ← s.traced) (c.pass_boundary.ensures _ _ c.in-Ended.is)

pub returns : goal.returns
returns c = λ r u ws s.
    let later : List ℕ = ws ++ c.args.word ∷ [] in
    rw (advance_on _ _ _ r u ws c.args.word c.args.level s.same c.in_default.not-Ended c.requires)
    (c.settle_access.ensures r u later (c.complete_access.ensures r u ws s))
