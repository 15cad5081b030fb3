use Rattle.std.proofs.Common.{arith, subst, ◌∙◌}
use Rattle.crew.specs.Crew.{side_seen}
use Rattle.ocs_words.specs.Asked.{value_of, extra_value}
use Rattle.ocs_run.specs.Command.{OrderAnswers}
use Rattle.ocs_run.specs.Sides.{IsSideOf}
use Rattle.ocs_words.specs.declared.fault.Fault.TheVariants.{Inputs}
use Rattle.ocs_run.proofs.OrderLaws.{side_fault, order_ended, order_wanting}
use Rattle.ocs_run.proofs.VerdictLaws.{by_err}
use Rattle.ocs_run.proofs.command.run_order.Goals as goal

pub returns-in_err-inputs-clause-answer : goal.returns-in_err-inputs-clause-answer
returns-in_err-inputs-clause-answer g c =
    by_err (λ r. OrderAnswers (value_of c.args.order.now) (g.P.Place.outside c.args.place.now) (g.P.Place.outside c.read_inputs.new.place) r) _
    (Inputs c.in_err-inputs.field-0.0) c.from_residual.ensures.1
    (c.in_err-inputs.ensures.fault, c.read_inputs.ensures.place.seen.files)

pub returns-in_err-sides-clause-answer : goal.returns-in_err-sides-clause-answer
returns-in_err-sides-clause-answer g c =
    let old = g.P.Place.outside c.args.place.now in
    let mid = g.P.Place.outside c.read_inputs.new.place in
    let new = g.P.Place.outside c.read_sides.new.place in
    let kept = c.read_inputs.ensures.place.seen in
    by_err (λ r. OrderAnswers (value_of c.args.order.now) old new r) _ c.in_err-sides.field-0.0 c.from_residual-in_err-sides.ensures.1
    (side_fault (value_of c.args.order.now) old mid new c.in_ok-inputs.inputs.image.items c.in_ok-inputs.inputs.script _ c.in_ok-inputs.ensures.good
    kept.files kept.read_faults c.in_err-sides.ensures.fault c.read_sides.ensures.place.seen.files)

pub returns-in_err-setup-clause-answer : goal.returns-in_err-setup-clause-answer
returns-in_err-setup-clause-answer g c =
    let old = g.P.Place.outside c.args.place.now in
    let new = g.P.Place.outside c.read_sides.new.place in
    by_err (λ r. OrderAnswers (value_of c.args.order.now) old new r) _ c.in_err-setup.field-0.0 c.from_residual-in_err-setup.ensures.1
    (order_wanting (value_of c.args.order.now) old new c.in_err-setup.field-0.0 c.in_err-setup.ensures.memory
    (c.read_sides.ensures.place.seen.files ∙ c.read_inputs.ensures.place.seen.files))

pub returns-clause-answer : goal.returns-clause-answer
returns-clause-answer g c =
    let old = g.P.Place.outside c.args.place.now in
    let made = g.P.Place.outside c.read_inputs.new.place in
    let mid = g.P.Place.outside c.read_sides.new.place in
    let kept = c.read_inputs.ensures.place.seen in
    let side = c.read_sides.ensures.place.seen in
    let chip : IsSideOf made c.in_ok-inputs.inputs.script.chip (extra_value c.args.order.now.extra) (side_seen c.in_ok-sides.sides.first) =
    subst (λ size. IsSideOf made size (extra_value c.args.order.now.extra) (side_seen c.in_ok-sides.sides.first)) c.chip_size.ensures
    c.in_ok-sides.ensures.side in
    order_ended (value_of c.args.order.now) old made mid (g.P.Place.outside c.run_files.new.place) c.in_ok-inputs.inputs.image.items
    c.in_ok-inputs.inputs.script (side_seen c.in_ok-sides.sides.first) c.in_ok-setup.setup _ _ c.in_ok-inputs.ensures.good kept.files chip
    (side.files ∙ kept.files) (omega (arith, kept.write_faults, side.write_faults)) c.in_ok-setup.ensures.setup c.audio.ensures
    c.run_files.ensures.done c.run_files.ensures.stopped c.run_files.ensures.place.cause
