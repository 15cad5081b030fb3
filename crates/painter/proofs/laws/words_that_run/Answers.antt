use Rattle.painter.proofs.RunningLaws.{last_begin_runs}
use Rattle.painter.proofs.laws.words_that_run.Goals as goal

pub returns : goal.returns
returns c = last_begin_runs
