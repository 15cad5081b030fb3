use Rattle.std.proofs.Common.{[], ◌∙◌}
use Rattle.std.specs.Prelude.{option_map}
use Rattle.std.specs.Arc.{arc_value}
use Rattle.crew.specs.Crew.{side_seen}
use Rattle.files_run.specs.Audio.{with_audio}
use Rattle.files_run.specs.Prefix.{LeavesFiles}
use Rattle.files_run.specs.Underway.{run_of, fore_of}
use Rattle.files_run.proofs.AudioLaws.{LeavesFiles-empty, HasAllFiles-rest, LeavesFiles-rest}
use Rattle.files_run.proofs.FaultLaws.{WritesRun-err, WritesRun-again, fault_of_all}
use Rattle.files_run.proofs.KeptLaws.{OnlyWrites-none, OnlyWrites-more}
use Rattle.files_run.proofs.RunLaws.{on_err, ok_then, err_then, LeavesPrefixes-run}
use Rattle.files_run.proofs.run.run_begun.Goals as goal

pub returns-in_err-create_files-clause-stopped : goal.returns-in_err-create_files-clause-stopped
returns-in_err-create_files-clause-stopped g c =
    let run = arc_value c.args.begun.run in
    let left : LeavesFiles (option_map (λ n. n.now) c.args.audio) (side_seen run.side) run.image run.script c.args.begun.underway.out.names
    (g.P.Place.outside c.args.place.now).files (g.P.Place.outside c.create_files.new.place).files =
    c.in_err-create_files.ensures.stopped (side_seen run.side) run.image run.script in
    on_err _ _ left

pub returns-in_err-create_files-clause-place : goal.returns-in_err-create_files-clause-place
returns-in_err-create_files-clause-place g c =
    WritesRun-again _ _ _ _ _ _ c.from_residual.ensures.1 (OnlyWrites-none (g.P.Place.outside c.args.place.now))
    c.in_err-create_files.ensures.place

pub returns-in_err-draw_with_crew-clause-stopped : goal.returns-in_err-draw_with_crew-clause-stopped
returns-in_err-draw_with_crew-clause-stopped g c =
    let run = arc_value c.args.begun.run in
    let audio = option_map (λ n. n.now) c.args.audio in
    let base = (g.P.Place.outside c.args.place.now).files in
    let mid = (g.P.Place.outside c.create_files.new.place).files in
    let after = (g.P.Place.outside c.draw_with_crew.new.place).files in
    on_err _ _ (LeavesFiles-empty (side_seen run.side) run.image run.script c.args.begun.underway.out.names audio base after
    (LeavesPrefixes-run (with_audio audio base []) mid after (run_of run) (fore_of c.args.begun.underway.fore) c.args.begun.underway.out
    c.create_files.new.out c.requires.fresh c.create_files.ensures.same c.in_ok-create_files.ensures.begins c.requires.new
    c.in_err-draw_with_crew.ensures.stopped))

pub returns-in_err-draw_with_crew-clause-place : goal.returns-in_err-draw_with_crew-clause-place
returns-in_err-draw_with_crew-clause-place g c =
    WritesRun-err _ _ _ _ _ _ c.from_residual-in_err-draw_with_crew.ensures.1 c.create_files.ensures.place.kept
    c.in_err-draw_with_crew.ensures.place.seen

pub returns-clause-done : goal.returns-clause-done
returns-clause-done g c =
    let base = (g.P.Place.outside c.args.place.now).files in
    let mid = (g.P.Place.outside c.create_files.new.place).files in
    let now = (g.P.Place.outside c.draw_with_crew.new.place).files in
    let after = (g.P.Place.outside c.write_rest.new.place).files in
    let drawn = c.in_ok-draw_with_crew.ensures in
    ok_then c.write_rest.result _ _ c.write_rest.ensures.done (HasAllFiles-rest (λ n. n.now) c.args.audio base mid now after
    (run_of (arc_value c.args.begun.run)) (fore_of c.args.begun.underway.fore) (fore_of c.draw_with_crew.new.underway.fore)
    c.args.begun.underway.out c.create_files.new.out c.draw_with_crew.new.underway.out c.draw_with_crew.new.underway.heard
    c.requires.apart c.requires.fresh c.create_files.ensures.same c.in_ok-create_files.ensures.begins c.requires.new c.requires.some
    drawn.done drawn.same.run drawn.same.names (drawn.on ∙ c.requires.on) drawn.same.heard)

pub returns-clause-stopped : goal.returns-clause-stopped
returns-clause-stopped g c =
    let base = (g.P.Place.outside c.args.place.now).files in
    let mid = (g.P.Place.outside c.create_files.new.place).files in
    let now = (g.P.Place.outside c.draw_with_crew.new.place).files in
    let after = (g.P.Place.outside c.write_rest.new.place).files in
    let drawn = c.in_ok-draw_with_crew.ensures in
    err_then c.write_rest.result _ _ c.write_rest.ensures.stopped (LeavesFiles-rest (λ n. n.now) c.args.audio base mid now after
    (run_of (arc_value c.args.begun.run)) (fore_of c.args.begun.underway.fore) (fore_of c.draw_with_crew.new.underway.fore)
    c.args.begun.underway.out c.create_files.new.out c.draw_with_crew.new.underway.out c.draw_with_crew.new.underway.heard
    c.requires.apart c.requires.fresh c.create_files.ensures.same c.in_ok-create_files.ensures.begins c.requires.new c.requires.some
    drawn.done drawn.same.run drawn.same.names (drawn.on ∙ c.requires.on) drawn.same.heard)

pub returns-clause-place : goal.returns-clause-place
returns-clause-place g c =
    let old = g.P.Place.outside c.args.place.now in
    let mid = g.P.Place.outside c.draw_with_crew.new.place in
    let new = g.P.Place.outside c.write_rest.new.place in
    let kept = OnlyWrites-more old (g.P.Place.outside c.create_files.new.place) mid c.create_files.ensures.place.kept
    c.draw_with_crew.ensures.place.seen.kept in
    record {
      kept = OnlyWrites-more old mid new kept c.write_rest.ensures.place.kept;
      cause = fault_of_all (option_map (λ n. n.now) c.args.audio) c.write_rest.result old mid new kept c.write_rest.ensures.place.cause;
    }
