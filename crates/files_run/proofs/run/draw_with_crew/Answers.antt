use Rattle.std.proofs.Common.{rules, subst}
use Rattle.std.specs.Arc.{arc_value}
use Rattle.crew.specs.Crew.{crew_seen}
use Rattle.files_run.specs.Underway.{run_of, fore_of, IsCutFromStart}
use Rattle.files_run.proofs.RunLaws.{on_err, CanRun-start, IsCutFromStart-now}
use Rattle.files_run.proofs.AudioLaws.{IsHeard-start}
use Rattle.files_run.proofs.CrewLaws.{IsEmpty-lent, mark_left, EndsFromStart-left, IsCutFromStart-left, IsOfSameRun-left}
use Rattle.files_run.proofs.run.draw_with_crew.Goals as goal

pub with_crew-requires-clause-body : goal.with_crew-requires-clause-body
with_crew-requires-clause-body g c κs within = λ crew new. record {
  takes = λ lent is. (
    c.requires.growable,
    (
      CanRun-start _ _ _ c.requires.new (IsEmpty-lent _ crew lent.now is new),
      IsHeard-start c.args.underway.now.heard _ (fore_of c.args.underway.now.fore) c.requires.new c.requires.silent,
    ),
  );
  keeps = λ answer after left called.
      mark_left crew called.shown.now called.left.now left called.shows called.leaves called.called.met.1.1.1.1.0;
}

pub returns-in_err-answer-clause-stopped : goal.returns-in_err-answer-clause-stopped
returns-in_err-answer-clause-stopped g c =
    on_err _ _ (subst (λ p. IsCutFromStart (run_of (arc_value c.args.run)) (fore_of c.args.underway.now.fore) c.args.underway.now.out
    (g.P.Place.outside c.args.place.now).files (g.P.Place.outside p).files) (search rules)
    (IsCutFromStart-now _ (fore_of c.args.underway.now.fore) c.args.underway.now.out (g.P.Place.outside c.args.place.now).files c.requires.new))

pub returns-clause-done : goal.returns-clause-done
returns-clause-done g c =
    let ran = c.in_ok-answer.ensures.ran in
    let lent = ran.called.shown.now in
    EndsFromStart-left g.P.Place.outside _ _ (crew_seen lent) _ _ _ _ _ _ _ _ _ (IsEmpty-lent _ ran.crew lent ran.called.shows ran.starts) (search rules)
    (search rules) (search rules) ran.called.called.met.1.0

pub returns-clause-stopped : goal.returns-clause-stopped
returns-clause-stopped g c =
    let ran = c.in_ok-answer.ensures.ran in
    let lent = ran.called.shown.now in
    IsCutFromStart-left g.P.Place.outside _ _ (crew_seen lent) _ _ _ _ _ c.requires.new (IsEmpty-lent _ ran.crew lent ran.called.shows ran.starts)
    (search rules) ran.called.called.met.1.1.0

pub returns-clause-same : goal.returns-clause-same
returns-clause-same g c =
    let ran = c.in_ok-answer.ensures.ran in
    IsOfSameRun-left _ _ _ _ _ _ _ _ _ (search rules) (search rules) (search rules) ran.called.called.met.1.1.1.0
