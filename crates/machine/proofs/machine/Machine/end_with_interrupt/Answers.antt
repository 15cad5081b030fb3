use Rattle.out_files.proofs.GivesLaws.{gives_line}
use Rattle.machine.proofs.machine.Machine.end_with_interrupt.Goals as goal

pub returns-clause-lines : goal.returns-clause-lines
returns-clause-lines g c = gives_line _ _ _ c.in_ok-line.ensures.ok c.in_ok-line.ensures.together
