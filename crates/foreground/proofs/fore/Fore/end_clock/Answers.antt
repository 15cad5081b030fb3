use Rattle.machine.specs.Machine.{machine_over}
use Rattle.foreground.specs.Fore.{ForeValue, over}
use Rattle.std.proofs.Common.{ap, ◌∙◌}
use Rattle.foreground.proofs.AdvanceLaws.{ends_clock, next_of}
use Rattle.foreground.proofs.fore.Fore.end_clock.Goals as goal

pub returns-clause-ends : goal.returns-clause-ends
returns-clause-ends g c =
    let view = ap (over g.S.Side.seen) c.self.view_is in
    ends_clock _ _ _ _ _ _ _ view (c.system-system.ensures ∙ ap (λ (f : ForeValue). f.run.script.system) view) c.in_ok-process.ensures.step
    (ap (machine_over g.S.Side.seen) c.in_ok-process.ensures.same)
    c.advance.ensures.step
    c.advance.ensures.count c.advance.ensures.chip

pub returns-clause-place : goal.returns-clause-place
returns-clause-place g c =
    let view = ap (over g.S.Side.seen) c.self.view_is in (
      _,
      next_of _ _ _ _ _ _ view (c.system-system.ensures ∙ ap (λ (f : ForeValue). f.run.script.system) view)
          (ap (machine_over g.S.Side.seen) c.in_ok-process.ensures.same) c.advance.ensures.beam,
    )
