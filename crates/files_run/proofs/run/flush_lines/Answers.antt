use Rattle.files_run.proofs.RunLaws.{StayTogether-none}
use Rattle.files_run.proofs.run.flush_lines.Goals as goal

pub returns-clause-together : goal.returns-clause-together
returns-clause-together g c = StayTogether-none _ _
