use Rattle.quiet_clocks.proofs.QuietClocks.{quiet_span, fewer_are_quiet, clocks_of_two, clocks_of_run}
use Rattle.quiet_clocks.proofs.laws.quiet_clocks.Goals as goal

pub returns-clause-span : goal.returns-clause-span
returns-clause-span c = quiet_span

pub returns-clause-fewer : goal.returns-clause-fewer
returns-clause-fewer c = fewer_are_quiet

pub returns-clause-of_two : goal.returns-clause-of_two
returns-clause-of_two c = clocks_of_two

pub returns-clause-of_run : goal.returns-clause-of_run
returns-clause-of_run c = clocks_of_run
