-- The appends of the two files, one after the other, are the flush.
use Rattle.std.proofs.Common.{[], subst}
use Rattle.ocs_io.proofs.MapLaws.{on_err}
use Rattle.out_files.specs.OutFiles.{OutFilesValue}
use Rattle.out_files.specs.Together.{AreDifferent, LeavesParts}
use Rattle.out_files.proofs.FlushLaws.{first_refused, second_answered}
use Rattle.out_files.proofs.PlacesLaws.{leaves_on}
use Rattle.out_files.proofs.TogetherLaws.{flush_keeps, flush_leaves, flush_refused}
use Rattle.out_files.proofs.files.OutFiles.flush.Goals as goal

pub returns-in_err-give-clause-parts : goal.returns-in_err-give-clause-parts
returns-in_err-give-clause-parts g c =
    let outside = g.P.Place.outside in
    let different : AreDifferent c.args.self.now.names = subst (λ (v : OutFilesValue). AreDifferent v.names) c.self.view_is c.self.invariant.different in
    on_err c.from_residual.result (LeavesParts c.args.self.now (outside c.args.place.now).files (outside c.give.new.place).files [])
    (flush_refused c.args.self.now _ (outside c.args.place.now) (outside c.give.new.place) c.in_err-give.field-0.0 different
    (first_refused c.args.self.now _ c.as_str.result.now c.give.new.pending.items (outside c.args.place.now)
    (outside c.give.new.place) c.in_err-give.field-0.0 c.self.view_is
    c.as_str.ensures.value c.in_err-give.ensures.answer))

pub returns-clause-answer : goal.returns-clause-answer
returns-clause-answer g c =
    let outside = g.P.Place.outside in
    second_answered c.args.self.now _ c.as_str.result.now c.as_str-2.result.now c.give.new.pending.items c.give-2.new.pending.items (outside c.args.place.now)
    (outside c.give.new.place) (outside c.give-2.new.place) c.give-2.result c.self.view_is c.as_str.ensures.value c.as_str-2.ensures.value
    c.in_ok-give.ensures.answer
    c.give-2.ensures.answer

pub returns-clause-together : goal.returns-clause-together
returns-clause-together g c =
    let outside = g.P.Place.outside in
    let different : AreDifferent c.args.self.now.names = subst (λ (v : OutFilesValue). AreDifferent v.names) c.self.view_is c.self.invariant.different in
    flush_keeps c.args.self.now _ (outside c.args.place.now) (outside c.give-2.new.place) c.give-2.result different
    (second_answered c.args.self.now _ c.as_str.result.now c.as_str-2.result.now c.give.new.pending.items c.give-2.new.pending.items (outside c.args.place.now)
    (outside c.give.new.place) (outside c.give-2.new.place) c.give-2.result c.self.view_is c.as_str.ensures.value c.as_str-2.ensures.value
    c.in_ok-give.ensures.answer c.give-2.ensures.answer)

pub returns-clause-parts : goal.returns-clause-parts
returns-clause-parts g c =
    let outside = g.P.Place.outside in
    let different : AreDifferent c.args.self.now.names = subst (λ (v : OutFilesValue). AreDifferent v.names) c.self.view_is c.self.invariant.different in
    flush_leaves c.args.self.now _ (outside c.args.place.now) (outside c.give-2.new.place) c.give-2.result different
    (second_answered c.args.self.now _ c.as_str.result.now c.as_str-2.result.now c.give.new.pending.items c.give-2.new.pending.items (outside c.args.place.now)
    (outside c.give.new.place) (outside c.give-2.new.place) c.give-2.result c.self.view_is c.as_str.ensures.value c.as_str-2.ensures.value
    c.in_ok-give.ensures.answer c.give-2.ensures.answer)

pub returns-clause-place : goal.returns-clause-place
returns-clause-place g c =
    leaves_on g.P.Place.outside g.P.Place.readable g.P.Place.growable _ c.give-2.result c.args.place.now c.give.new.place c.give-2.new.place
    c.in_ok-give.ensures.place c.give-2.ensures.place
