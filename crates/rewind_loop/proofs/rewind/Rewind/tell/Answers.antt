-- The run and how often a checkpoint is due stay as they are.
use Rattle.std.proofs.Common.{refl}
use Rattle.rewind_loop.proofs.rewind.Rewind.tell.Goals as goal

pub returns-clause-run : goal.returns-clause-run
returns-clause-run c = refl

pub returns-clause-every : goal.returns-clause-every
returns-clause-every c = refl
