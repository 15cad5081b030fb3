use Rattle.serial_model.proofs.EndLaws.{has_end, frames_are_whole}
use Rattle.serial_model.proofs.laws.whole_run.Goals as goal

pub returns-clause-ends : goal.returns-clause-ends
returns-clause-ends c = has_end

pub returns-clause-frames : goal.returns-clause-frames
returns-clause-frames c = frames_are_whole
