use Rattle.std.proofs.Common.{ap, refl, is_some, ◌∙◌}
use Rattle.serial_model.specs.declared.bus.Ask.TheVariants as A
use Rattle.serial_model.specs.declared.bus.Made.TheVariants as M
use Rattle.foreground.specs.Fore.{ForeOf, over}
use Rattle.clock_loop.proofs.EndLaws.{served_view, wanted_refused, plane_ends, plane_refused, plane_rest}
use Rattle.clock_loop.proofs.clock.plane_clock.Goals as goal

pub returns-in_err-note_plane-clause-ends : goal.returns-in_err-note_plane-clause-ends
returns-in_err-note_plane-clause-ends g c =
    wanted_refused _ (over g.S.Side.seen c.args.fore.now) _ _ _ c.from_residual.result c.from_residual.ensures.0
    (ap (λ (f : ForeOf _). f.machine.chip.reads) c.fore.view_is) refl (ap (λ f. (over g.S.Side.seen f).run) c.fore.view_is)

pub returns-in_err-end_beside-clause-ends : goal.returns-in_err-end_beside-clause-ends
returns-in_err-end_beside-clause-ends g c =
    let made = M.Plane c.args.ask.now.plane c.args.ask.now.at in
    plane_refused (A.Plane c.args.ask.now) made c.pass_plane-waited.result (over g.S.Side.seen c.args.fore.now) _
    (over g.S.Side.seen c.end_beside.new.fore)
    _ _ c.from_residual-in_err-end_beside.result c.from_residual-in_err-end_beside.ensures.0
    (served_view _ _ _ _ _ _ (ap (over g.S.Side.seen) c.fore.view_is) (record {
      turned = c.pass_plane-waited.ensures.waits;
      access = c.pass_plane-waited.ensures.left;
      notes = c.in_ok-note_plane.ensures;
      range = λ able. (able.first, able.last);
      waits = refl;
      same = refl;
    })) c.in_err-end_beside.ensures.left c.end_beside.ensures.chip c.in_err-end_beside.ensures.refused (ap (over g.S.Side.seen) c.end_beside.ensures.same)

pub returns-clause-ends : goal.returns-clause-ends
returns-clause-ends g c =
    let made = M.Plane c.args.ask.now.plane c.args.ask.now.at in
    plane_ends (A.Plane c.args.ask.now) made c.pass_plane-waited.result (over g.S.Side.seen c.args.fore.now) _ (over g.S.Side.seen c.end_beside.new.fore)
    _ _
    (served_view _ _ _ _ _ _ (ap (over g.S.Side.seen) c.fore.view_is) (record {
      turned = c.pass_plane-waited.ensures.waits;
      access = c.pass_plane-waited.ensures.left;
      notes = c.in_ok-note_plane.ensures;
      range = λ able. (able.first, able.last);
      waits = refl;
      same = refl;
    })) (c.pass_plane-waited.ensures.busy ∙ ap (λ (f : ForeOf _). is_some f.machine.chips.blit) c.fore.view_is) c.in_ok-end_beside.ensures.ends
    (ap (over g.S.Side.seen) c.end_beside.ensures.same)

pub returns-clause-rest : goal.returns-clause-rest
returns-clause-rest g c stays =
    let made = M.Plane c.args.ask.now.plane c.args.ask.now.at in
    plane_rest (A.Plane c.args.ask.now) made c.pass_plane-waited.result _ _ (over g.S.Side.seen c.args.fore.now) _
    (over g.S.Side.seen c.end_beside.new.fore)
    (served_view _ _ _ _ _ _ (ap (over g.S.Side.seen) c.fore.view_is) (record {
      turned = c.pass_plane-waited.ensures.waits;
      access = c.pass_plane-waited.ensures.left;
      notes = c.in_ok-note_plane.ensures;
      range = λ able. (able.first, able.last);
      waits = refl;
      same = refl;
    })) (c.pass_plane-waited.ensures.busy ∙ ap (λ (f : ForeOf _). is_some f.machine.chips.blit) c.fore.view_is) c.in_ok-end_beside.ensures.rest
