use Rattle.painter.proofs.Runs.{runs_of_span, runs_in_span}
use Rattle.painter.proofs.laws.runs_of_many_clocks.Goals as goal

pub returns-clause-span : goal.returns-clause-span
returns-clause-span c = runs_of_span

pub returns-clause-within : goal.returns-clause-within
returns-clause-within c = runs_in_span
