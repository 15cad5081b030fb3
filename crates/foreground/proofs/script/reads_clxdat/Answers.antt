use Rattle.std.proofs.Common.{refl, sym, ◌∙◌}
use Rattle.foreground.proofs.ScriptLaws.{searched_more, search_found, search_over, IsOver-later, IsOver-empty}
use Rattle.foreground.proofs.script.reads_clxdat.Goals as goal

pub loop-event-init : goal.loop-event-init
loop-event-init c = record { same = refl; rest = c.requires.queue }

pub loop-event-preserved : goal.loop-event-preserved
loop-event-preserved c =
    searched_more _ _ _ _ c.in-Some.event.now c.loop-event.invariant c.in-Some.ensures.cases.0
    (sym c.is_due.ensures ∙ c.if-not-is_due.false) (sym c.is_clx_peek.ensures ∙ c.if-is_clx_peek.false)

pub returns-then-not-is_due : goal.returns-then-not-is_due
returns-then-not-is_due c =
    search_over c.args.beam.now _ _ c.loop-event.invariant
    (IsOver-later c.loop-event.left.now _ c.in-Some.event.now c.args.beam.now c.args.beam.now c.requires.screen c.loop-event.invariant.rest
    c.in-Some.ensures.cases.0 refl (sym c.is_due.ensures ∙ c.if-not-is_due.true))

pub returns-then-is_clx_peek : goal.returns-then-is_clx_peek
returns-then-is_clx_peek c =
    search_found _ _ _ _ c.in-Some.event.now c.loop-event.invariant c.in-Some.ensures.cases.0
    (sym c.is_due.ensures ∙ c.if-not-is_due.false) (sym c.is_clx_peek.ensures ∙ c.if-is_clx_peek.true)

pub returns : goal.returns
returns c = search_over c.args.beam.now _ _ c.loop-event.invariant (IsOver-empty c.loop-event.left.now c.args.beam.now c.in_default.ensures.cases)
