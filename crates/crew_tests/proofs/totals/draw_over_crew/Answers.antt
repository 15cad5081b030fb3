-- A new foreground can run over a new crew.
use Rattle.files_run.proofs.RunLaws.{CanRun-start}
use Rattle.files_run.proofs.CrewLaws.{IsEmpty-lent, mark_left}
use Rattle.crew_tests.proofs.totals.draw_over_crew.Goals as goal

pub with_crew-requires-clause-body : goal.with_crew-requires-clause-body
with_crew-requires-clause-body g c κs within = λ crew new. record {
  takes = λ lent is. CanRun-start _ _ _ c.requires.new (IsEmpty-lent _ crew lent.now is new);
  keeps = λ answer after left called.
      mark_left crew called.shown.now called.left.now left called.shows called.leaves called.called.met.1.0;
}
