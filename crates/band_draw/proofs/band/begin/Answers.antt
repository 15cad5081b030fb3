use Rattle.std.proofs.Common.{◌≡◌, ◌≤◌, ◌+◌, List, length, drop, subst, sym, ap, ◌∙◌}
use Rattle.ocs_base.specs.Script.{ScriptValue}
use Rattle.ocs_base.specs.declared.script.At.{At}
use Rattle.serial_model.specs.Beam.{place_of}
use Rattle.serial_model.specs.Events.{due_events, touches_of}
use Rattle.serial_bands.specs.Run.{run_over}
use Rattle.band_draw.specs.code.Due.{IsLeft}
use Rattle.band_draw.proofs.Beginning.{left_all, begun_at}
use Rattle.band_draw.proofs.band.begin.Goals as goal

pub first_from-first-requires : goal.first_from-first-requires
first_from-first-requires g c =
    let script : c.events-script.result.now ≡ c.args.run.now.script.events =
    c.events-script.ensures ∙ ap (λ (s : ScriptValue). s.events) c.script.ensures.value in
    subst (λ l. IsLeft 0 l l) (sym script) (left_all c.args.run.now.script c.script.ensures.good.script)

pub returns-clause-at : goal.returns-clause-at
returns-clause-at g c n events words room parts =
    let run = run_over g.S.Side.seen c.args.run.now in
    let script : c.events-script.result.now ≡ c.args.run.now.script.events =
    c.events-script.ensures ∙ ap (λ (s : ScriptValue). s.events) c.script.ensures.value in
    let due = c.due_from-due in
    begun_at run n c.args.from.0 c.args.to.0 c.args.beam c.args.opening.now c.open.result events words room due.result.sets due.result.behind.next
    parts c.open.ensures.opened c.open.ensures.keeps
    (due.ensures.sets ∙ ap (λ l. length (touches_of (due_events c.args.beam l))) script)
    (subst (λ l. IsLeft (place_of c.args.beam + 1) l (drop due.result.behind.next l)) script due.ensures.left)
    (subst (λ (l : List At). due.result.behind.next ≤ length l) script due.ensures.within)
