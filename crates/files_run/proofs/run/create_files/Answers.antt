use Rattle.std.proofs.Common.{Option, List, ℕ, subst, sym}
use Rattle.std.specs.Prelude.{option_map}
use Rattle.out_files.specs.OutFiles.{OutFilesValue}
use Rattle.ocs_words.specs.Order.{IsFourthName}
use Rattle.files_run.specs.code.Rest.{MayHaveCreated}
use Rattle.files_run.proofs.AudioLaws.{LeavesFiles-none, LeavesFiles-made, Begins-audio}
use Rattle.files_run.proofs.FaultLaws.{WritesRun-err, WritesRun-again}
use Rattle.files_run.proofs.KeptLaws.{OnlyWrites-none}
use Rattle.files_run.proofs.RunLaws.{on_err, LeavesPrefixes-create_refused}
use Rattle.files_run.proofs.run.create_files.Goals as goal

pub returns-in_err-create-clause-stopped : goal.returns-in_err-create-clause-stopped
returns-in_err-create-clause-stopped g c =
    let old = g.P.Place.outside c.args.place.now in
    let new = g.P.Place.outside c.create.new.place in
    let made : MayHaveCreated (option_map (λ n. n.now) c.args.audio) c.args.out.now.names old.files new.files =
    λ side image script. LeavesFiles-none side image script c.args.out.now.names (option_map (λ n. n.now) c.args.audio) old.files new.files
    (LeavesPrefixes-create_refused side image script c.args.out.now.names old new _ c.in_err-create.ensures.answer) in
    on_err _ _ made

pub returns-in_err-create-clause-place : goal.returns-in_err-create-clause-place
returns-in_err-create-clause-place g c =
    WritesRun-err _ _ _ _ _ _ c.from_residual.ensures.1 (OnlyWrites-none (g.P.Place.outside c.args.place.now))
    c.in_err-create.ensures.place.seen

pub returns-in_err-create_audio-clause-stopped : goal.returns-in_err-create_audio-clause-stopped
returns-in_err-create_audio-clause-stopped g c =
    let old = g.P.Place.outside c.args.place.now in
    let new = g.P.Place.outside c.create_audio.new.place in
    let made : MayHaveCreated (option_map (λ n. n.now) c.args.audio) c.args.out.now.names old.files new.files =
    λ side image script. LeavesFiles-made side image script c.args.out.now.names (option_map (λ n. n.now) c.args.audio) old.files _ new.files
    c.requires.apart c.in_ok-create.ensures.answer c.in_err-create_audio.ensures.stopped in
    on_err _ _ made

pub returns-in_err-create_audio-clause-place : goal.returns-in_err-create_audio-clause-place
returns-in_err-create_audio-clause-place g c =
    WritesRun-again _ _ _ _ _ _ c.from_residual-in_err-create_audio.ensures.1 c.create.ensures.place.seen.kept
    c.in_err-create_audio.ensures.place.seen

pub returns-clause-begins : goal.returns-clause-begins
returns-clause-begins g c =
    let audio : Option (List ℕ) = option_map (λ n. n.now) c.args.audio in
    let fourth : IsFourthName c.create.new.self.names audio =
    subst (λ (o : OutFilesValue). IsFourthName o.names audio) (sym c.create.ensures.same) c.requires.apart in
    Begins-audio audio _ _ _ _ fourth c.in_ok-create.ensures.together c.in_ok-create_audio.ensures.done
