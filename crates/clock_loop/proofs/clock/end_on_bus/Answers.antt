use Rattle.std.proofs.Common.{◌+◌, ap, refl, subst, sym, ◌∙◌}
use Rattle.chip_set.specs.Bus.{CiasRest}
use Rattle.machine.specs.declared.machine.Machine.{Machine}
use Rattle.machine.specs.Machine.{machine_over}
use Rattle.foreground.specs.Fore.{ForeOf, over}
use Rattle.foreground.proofs.AdvanceLaws.{ends_clock, next_of}
use Rattle.clock_loop.proofs.BusLaws.{rest_ended}
use Rattle.clock_loop.proofs.clock.end_on_bus.Goals as goal

pub returns-clause-ends : goal.returns-clause-ends
returns-clause-ends g c =
    let view = ap (over g.S.Side.seen) c.fore.view_is in
    ends_clock _ _ _ _ _ _ _ view refl c.in_ok-alone.ensures.step (ap (machine_over g.S.Side.seen) c.in_ok-alone.ensures.same)
    (c.advance_in_line.ensures.step _) c.advance_in_line.ensures.count c.advance_in_line.ensures.chip

pub returns-clause-place : goal.returns-clause-place
returns-clause-place g c =
    let view = ap (over g.S.Side.seen) c.fore.view_is in
    (_, next_of _ _ _ _ _ _ view refl (ap (machine_over g.S.Side.seen) c.in_ok-alone.ensures.same) (c.advance_in_line.ensures.beam _))

pub returns-clause-rest : goal.returns-clause-rest
returns-clause-rest g c was =
    rest_ended _ _ _ _ _ _ _ _ c.rest_beside.ensures.alone c.rest_beside.ensures.accessed c.in_ok-alone.ensures.cias
    (c.advance_in_line.ensures.count ∙ ap (λ (m : Machine _). m.t + 1) c.in_ok-alone.ensures.same) c.advance_in_line.ensures.chips
    (subst (λ (f : ForeOf _). CiasRest (f.machine.t + 1) c.args.rest.now f.machine.chips) (sym c.fore.view_is) was)
