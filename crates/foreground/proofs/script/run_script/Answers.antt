use Rattle.std.proofs.Common.{rules, sym, ◌∙◌}
use Rattle.foreground.proofs.ScriptLaws.{HasDone-start, turn, MakesEvents-all, noted-all, IsOver-later}
use Rattle.foreground.proofs.ScriptLaws.{IsOver-empty, lines_none, lines_then, rest_all, rest_more}
use Rattle.foreground.proofs.RefusalLaws.{no_value, not_ok}
use Rattle.foreground.proofs.script.run_script.Goals as goal

pub loop-event-init : goal.loop-event-init
loop-event-init g c =
    ((HasDone-start _ _ _ _ _, c.requires.queue), (lines_none _, (c.requires.some, rest_all _)))

pub loop-event-preserved : goal.loop-event-preserved
loop-event-preserved g c = (
  turn _ _ _ c.in-Some.event.now _ _ _ _ _ _ _ _ _ _ _ _ c.requires.screen c.loop-event.invariant.0 c.in-Some.ensures.cases.0
      (sym c.is_due.ensures ∙ c.if-not-is_due.false) c.in_ok-happen.ensures.read c.in_ok-happen.ensures.bits
      c.in_ok-happen.ensures.step c.in_ok-happen.ensures.place c.in_ok-happen.ensures.noted,
  (
    lines_then _ _ _ c.loop-event.invariant.1.0 c.in_ok-happen.ensures.told,
    (c.in_ok-happen.ensures.some, rest_more _ _ _ c.in-Some.event.now c.loop-event.invariant.1.1.1 c.in-Some.ensures.cases.0),
  ),
)

pub returns-then-not-is_due-clause-step : goal.returns-then-not-is_due-clause-step
returns-then-not-is_due-clause-step g c =
    let over = IsOver-later _ _ c.in-Some.event.now _ _ c.requires.screen c.loop-event.invariant.0.1 c.in-Some.ensures.cases.0
    c.loop-event.invariant.0.0.place.beam (sym c.is_due.ensures ∙ c.if-not-is_due.true) in
    MakesEvents-all _ _ _ _ _ _ _ _ _ _ c.loop-event.invariant.0.0 over.none

pub returns-then-not-is_due-clause-noted : goal.returns-then-not-is_due-clause-noted
returns-then-not-is_due-clause-noted g c =
    let over = IsOver-later _ _ c.in-Some.event.now _ _ c.requires.screen c.loop-event.invariant.0.1 c.in-Some.ensures.cases.0
    c.loop-event.invariant.0.0.place.beam (sym c.is_due.ensures ∙ c.if-not-is_due.true) in
    noted-all _ _ _ _ _ _ _ _ _ _ c.loop-event.invariant.0.0 over.none

pub returns-then-not-is_due-clause-left : goal.returns-then-not-is_due-clause-left
returns-then-not-is_due-clause-left g c =
    (IsOver-later _ _ c.in-Some.event.now _ _ c.requires.screen c.loop-event.invariant.0.1 c.in-Some.ensures.cases.0
    c.loop-event.invariant.0.0.place.beam (sym c.is_due.ensures ∙ c.if-not-is_due.true)).rest

pub returns-then-not-is_due-clause-place : goal.returns-then-not-is_due-clause-place
returns-then-not-is_due-clause-place g c = c.loop-event.invariant.0.0.place

pub returns-then-not-is_due-clause-later : goal.returns-then-not-is_due-clause-later
returns-then-not-is_due-clause-later g c = c.loop-event.invariant.0.0.later

pub returns-then-not-is_due-clause-chip : goal.returns-then-not-is_due-clause-chip
returns-then-not-is_due-clause-chip g c = c.loop-event.invariant.0.0.place.chip

pub returns-clause-step : goal.returns-clause-step
returns-clause-step g c =
    let over = IsOver-empty c.loop-event.left.now c.args.machine.now.beam c.in_default.ensures.cases in
    MakesEvents-all _ _ _ _ _ _ _ _ _ _ c.loop-event.invariant.0.0 over.none

pub returns-clause-noted : goal.returns-clause-noted
returns-clause-noted g c =
    let over = IsOver-empty c.loop-event.left.now c.args.machine.now.beam c.in_default.ensures.cases in
    noted-all _ _ _ _ _ _ _ _ _ _ c.loop-event.invariant.0.0 over.none

pub returns-clause-left : goal.returns-clause-left
returns-clause-left g c = (IsOver-empty c.loop-event.left.now c.args.machine.now.beam c.in_default.ensures.cases).rest

pub returns-clause-place : goal.returns-clause-place
returns-clause-place g c = c.loop-event.invariant.0.0.place

pub returns-clause-later : goal.returns-clause-later
returns-clause-later g c = c.loop-event.invariant.0.0.later

pub returns-clause-chip : goal.returns-clause-chip
returns-clause-chip g c = c.loop-event.invariant.0.0.place.chip

pub returns-in_err-happen-clause-told : goal.returns-in_err-happen-clause-told
returns-in_err-happen-clause-told g c =
    let told = lines_then _ _ _ c.loop-event.invariant.1.0 c.in_err-happen.ensures.told in
    search (rules, told)

pub returns-in_err-happen-clause-chip : goal.returns-in_err-happen-clause-chip
returns-in_err-happen-clause-chip g c = c.in_err-happen.ensures.chip ∙ c.loop-event.invariant.0.0.place.chip

pub returns-then-not-is_due-clause-rest : goal.returns-then-not-is_due-clause-rest
returns-then-not-is_due-clause-rest g c = c.loop-event.invariant.1.1.1

pub returns-clause-rest : goal.returns-clause-rest
returns-clause-rest g c = c.loop-event.invariant.1.1.1

pub is_due-requires : goal.is_due-requires
is_due-requires g c = tt

pub returns-then-not-is_due-clause-told : goal.returns-then-not-is_due-clause-told
returns-then-not-is_due-clause-told g c = tt

pub returns-in_err-happen-clause-step : goal.returns-in_err-happen-clause-step
returns-in_err-happen-clause-step g c = not_ok c.from_residual.result _ c.from_residual.ensures.0

pub returns-in_err-happen-clause-place : goal.returns-in_err-happen-clause-place
returns-in_err-happen-clause-place g c = not_ok c.from_residual.result _ c.from_residual.ensures.0

pub returns-in_err-happen-clause-noted : goal.returns-in_err-happen-clause-noted
returns-in_err-happen-clause-noted g c = not_ok c.from_residual.result _ c.from_residual.ensures.0

pub returns-in_err-happen-clause-left : goal.returns-in_err-happen-clause-left
returns-in_err-happen-clause-left g c = no_value c.from_residual.result _ c.from_residual.ensures.0

pub returns-in_err-happen-clause-rest : goal.returns-in_err-happen-clause-rest
returns-in_err-happen-clause-rest g c = no_value c.from_residual.result _ c.from_residual.ensures.0

pub returns-in_err-happen-clause-later : goal.returns-in_err-happen-clause-later
returns-in_err-happen-clause-later g c = no_value c.from_residual.result _ c.from_residual.ensures.0

pub returns-clause-told : goal.returns-clause-told
returns-clause-told g c = tt
