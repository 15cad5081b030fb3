use Rattle.serial_model.proofs.SideLaws.{no_side_stays, no_side_is_quiet, fewer_of_quiet_side}
use Rattle.serial_model.proofs.laws.quiet_sides.Goals as goal

pub returns-clause-stays : goal.returns-clause-stays
returns-clause-stays c = no_side_stays

pub returns-clause-quiet : goal.returns-clause-quiet
returns-clause-quiet c = no_side_is_quiet

pub returns-clause-fewer : goal.returns-clause-fewer
returns-clause-fewer c = fewer_of_quiet_side
