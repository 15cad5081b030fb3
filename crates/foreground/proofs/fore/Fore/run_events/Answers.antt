-- Where no event is left, none is due; else the script's events are made.
use Rattle.std.proofs.Common.{sym, ap, subst, ◌∙◌, refl, length, ◌-◌}
use Rattle.ocs_base.specs.Script.{ScriptValue}
use Rattle.serial_bands.specs.Run.{RunOf}
use Rattle.foreground.specs.Fore.{ForeValue, over}
use Rattle.foreground.specs.Script.{IsMachine}
use Rattle.foreground.proofs.EmptyLaws.{no_events, none_noted, next_is_last}
use Rattle.foreground.proofs.ReachLaws.{script_events_of, noted_of_left}
use Rattle.machine.specs.Machine.{KeepsPlace, machine_over}
use Rattle.serial_model.specs.Beam.{IsOnScreen}
use Rattle.foreground.specs.declared.fore.Fore.{Fore}
use Rattle.foreground.proofs.MadeLaws.{on_err}
use Rattle.foreground.proofs.RefusalLaws.{not_ok}
use Rattle.foreground.proofs.fore.Fore.run_events.Goals as goal

pub returns-then-self-events-clause-step : goal.returns-then-self-events-clause-step
returns-then-self-events-clause-step g c =
    let old = over g.S.Side.seen c.args.self.now in
    no_events c.args.clx old c.args.out.now c.requires.screen c.requires.script
    (next_is_last old _ c.events-events.result.now (ap (over g.S.Side.seen) c.self.view_is)
    (c.events-events.ensures ∙ ap (λ (s : ScriptValue). s.events) c.script.ensures.value ∙ ap (λ (r : RunOf _). r.script.events) c.deref.ensures)
    c.if-self-events.true)

pub returns-then-self-events-clause-noted : goal.returns-then-self-events-clause-noted
returns-then-self-events-clause-noted g c =
    let old = over g.S.Side.seen c.args.self.now in
    none_noted old c.requires.screen c.requires.script
    (next_is_last old _ c.events-events.result.now (ap (over g.S.Side.seen) c.self.view_is)
    (c.events-events.ensures ∙ ap (λ (s : ScriptValue). s.events) c.script.ensures.value ∙ ap (λ (r : RunOf _). r.script.events) c.deref.ensures)
    c.if-self-events.true)

pub run_script-requires-clause-some : goal.run_script-requires-clause-some
run_script-requires-clause-some g c = subst (λ (f : ForeValue). IsMachine f.machine) (sym (ap (over g.S.Side.seen) c.self.view_is)) c.requires.some

pub returns-clause-step : goal.returns-clause-step
returns-clause-step g c =
    script_events_of c.args.clx (over g.S.Side.seen c.args.self.now) _ c.events-events.result.now _ _ _ c.requires.screen c.requires.script
    (ap (over g.S.Side.seen) c.self.view_is)
    (c.events-events.ensures ∙ ap (λ (s : ScriptValue). s.events) c.script.ensures.value ∙ ap (λ (r : RunOf _). r.script.events) c.deref.ensures)
    c.in_ok-left.ensures.step

pub returns-then-self-events-clause-same : goal.returns-then-self-events-clause-same
returns-then-self-events-clause-same g c = refl

pub returns-then-self-events-clause-chip : goal.returns-then-self-events-clause-chip
returns-then-self-events-clause-chip g c = refl

pub returns-then-self-events-clause-told : goal.returns-then-self-events-clause-told
returns-then-self-events-clause-told g c = tt

pub run_script-requires-clause-screen : goal.run_script-requires-clause-screen
run_script-requires-clause-screen g c = subst (λ (f : Fore _). IsOnScreen f.machine.beam) (sym c.self.view_is) c.requires.screen

pub returns-in_err-left-clause-step : goal.returns-in_err-left-clause-step
returns-in_err-left-clause-step g c = not_ok c.from_residual.result _ c.from_residual.ensures.0

pub returns-in_err-left-clause-place : goal.returns-in_err-left-clause-place
returns-in_err-left-clause-place g c = not_ok c.from_residual.result _ c.from_residual.ensures.0

pub returns-in_err-left-clause-noted : goal.returns-in_err-left-clause-noted
returns-in_err-left-clause-noted g c = not_ok c.from_residual.result _ c.from_residual.ensures.0

pub returns-in_err-left-clause-script : goal.returns-in_err-left-clause-script
returns-in_err-left-clause-script g c = not_ok c.from_residual.result _ c.from_residual.ensures.0

pub returns-in_err-left-clause-chip : goal.returns-in_err-left-clause-chip
returns-in_err-left-clause-chip g c = c.run_script.ensures.chip ∙ ap (λ (f : Fore _). f.machine.chip) c.self.view_is

pub returns-in_err-left-clause-told : goal.returns-in_err-left-clause-told
returns-in_err-left-clause-told g c =
    on_err c.from_residual.result
    c.in_err-left.ensures.told

pub returns-in_err-left-clause-same : goal.returns-in_err-left-clause-same
returns-in_err-left-clause-same g c =
    ap (λ (f : Fore _). record f {
      machine = c.run_script.new.machine;
      log = c.run_script.new.log;
      next = c.self.inside.cursor.next;
    }) c.self.view_is

pub returns-clause-place : goal.returns-clause-place
returns-clause-place g c =
    subst (λ (f : Fore _). KeepsPlace (machine_over g.S.Side.seen f.machine) (machine_over g.S.Side.seen c.run_script.new.machine))
    c.self.view_is c.in_ok-left.ensures.place

pub returns-clause-same : goal.returns-clause-same
returns-clause-same g c =
    ap (λ (f : Fore _). record f {
      machine = c.run_script.new.machine;
      log = c.run_script.new.log;
      next = length c.events-events.result.now - length c.in_ok-left.left.now;
    }) c.self.view_is

pub returns-clause-chip : goal.returns-clause-chip
returns-clause-chip g c = c.in_ok-left.ensures.chip ∙ ap (λ (f : Fore _). f.machine.chip) c.self.view_is

pub returns-clause-told : goal.returns-clause-told
returns-clause-told g c = tt

pub returns-clause-noted : goal.returns-clause-noted
returns-clause-noted g c =
    noted_of_left (over g.S.Side.seen c.args.self.now) _ c.events-events.result.now c.run_script.new.log
    c.requires.screen c.requires.script (ap (over g.S.Side.seen) c.self.view_is)
    (c.events-events.ensures ∙ ap (λ (s : ScriptValue). s.events) c.script.ensures.value ∙ ap (λ (r : RunOf _). r.script.events) c.deref.ensures)
    c.in_ok-left.ensures.noted
