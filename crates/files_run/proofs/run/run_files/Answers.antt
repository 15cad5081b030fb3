use Rattle.std.proofs.Common.{◌≤◌, OnOk, OnErr, refl, subst, sym}
use Rattle.std.specs.Prelude.{option_map}
use Rattle.std.specs.Arc.{arc_value}
use Rattle.crew.specs.Crew.{side_seen}
use Rattle.run_side.specs.declared.side.RunSide.{RunSide}
use Rattle.serial_bands.specs.Run.{RunOf}
use Rattle.foreground.specs.Fore.{IsNew}
use Rattle.out_files.specs.OutFiles.{OutFilesValue}
use Rattle.ocs_words.specs.Order.{IsFourthName}
use Rattle.files_run.specs.Prefix.{LeavesFiles}
use Rattle.files_run.specs.Run.{HasAllFiles}
use Rattle.files_run.specs.Underway.{run_of, fore_of, IsFresh}
use Rattle.files_run.proofs.AudioLaws.{LeavesFiles-none}
use Rattle.files_run.proofs.PrefixLaws.{prefixes_kept}
use Rattle.files_run.proofs.RunLaws.{on_err}
use Rattle.files_run.proofs.run.run_files.Goals as goal

pub returns-in_err-begun-clause-stopped : goal.returns-in_err-begun-clause-stopped
returns-in_err-begun-clause-stopped g c =
    on_err _ _ (LeavesFiles-none (side_seen c.args.setup.run.side) c.args.setup.run.image c.args.setup.run.script c.args.setup.out.names _ _ _
    (prefixes_kept (side_seen c.args.setup.run.side) c.args.setup.run.image c.args.setup.run.script c.args.setup.out.names _ _ refl))

pub run_begun-requires-clause-some : goal.run_begun-requires-clause-some
run_begun-requires-clause-some g c κs within =
    subst (λ (r : RunOf RunSide). 1 ≤ r.script.frames) (sym c.in_ok-begun.ensures.run) c.script-good.ensures.good.script.least

pub run_begun-requires-clause-fresh : goal.run_begun-requires-clause-fresh
run_begun-requires-clause-fresh g c κs within =
    subst (λ (r : RunOf RunSide). IsFresh r.script.system c.in_ok-begun.begun.underway.out) (sym c.in_ok-begun.ensures.run)
    (subst (λ (o : OutFilesValue). IsFresh c.args.setup.run.script.system o) (sym c.in_ok-begun.ensures.out) c.requires.fresh)

pub run_begun-requires-clause-new : goal.run_begun-requires-clause-new
run_begun-requires-clause-new g c κs within =
    subst (λ (r : RunOf RunSide). IsNew (run_of r) (fore_of c.in_ok-begun.begun.underway.fore)) (sym c.in_ok-begun.ensures.run) c.in_ok-begun.ensures.new

pub run_begun-requires-clause-apart : goal.run_begun-requires-clause-apart
run_begun-requires-clause-apart g c κs within =
    subst (λ (o : OutFilesValue). IsFourthName o.names (option_map (λ n. n.now) c.args.audio)) (sym c.in_ok-begun.ensures.out) c.requires.apart

pub returns-clause-done : goal.returns-clause-done
returns-clause-done g c =
    subst (λ (r : RunOf RunSide). OnOk c.run_begun.result (HasAllFiles (option_map (λ n. n.now) c.args.audio) (side_seen r.side) r.image r.script
    c.args.setup.out.names (g.P.Place.outside c.args.place.now).files (g.P.Place.outside c.run_begun.new.place).files)) c.in_ok-begun.ensures.run
    (subst (λ (o : OutFilesValue). OnOk c.run_begun.result (HasAllFiles (option_map (λ n. n.now) c.args.audio)
    (side_seen (arc_value c.in_ok-begun.begun.run).side) (arc_value c.in_ok-begun.begun.run).image (arc_value c.in_ok-begun.begun.run).script o.names
    (g.P.Place.outside c.args.place.now).files (g.P.Place.outside c.run_begun.new.place).files)) c.in_ok-begun.ensures.out c.run_begun.ensures.done)

pub returns-clause-stopped : goal.returns-clause-stopped
returns-clause-stopped g c =
    subst (λ (r : RunOf RunSide). OnErr c.run_begun.result (LeavesFiles (option_map (λ n. n.now) c.args.audio) (side_seen r.side) r.image r.script
    c.args.setup.out.names (g.P.Place.outside c.args.place.now).files (g.P.Place.outside c.run_begun.new.place).files)) c.in_ok-begun.ensures.run
    (subst (λ (o : OutFilesValue). OnErr c.run_begun.result (LeavesFiles (option_map (λ n. n.now) c.args.audio)
    (side_seen (arc_value c.in_ok-begun.begun.run).side) (arc_value c.in_ok-begun.begun.run).image (arc_value c.in_ok-begun.begun.run).script o.names
    (g.P.Place.outside c.args.place.now).files (g.P.Place.outside c.run_begun.new.place).files)) c.in_ok-begun.ensures.out c.run_begun.ensures.stopped)
