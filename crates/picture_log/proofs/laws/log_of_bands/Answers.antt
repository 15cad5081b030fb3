use Rattle.picture_log.proofs.Logging.{begins_with_line, log_ends}
use Rattle.picture_log.proofs.Cutting.{log_cuts, number_fits, fetches_are_few}
use Rattle.picture_log.proofs.laws.log_of_bands.Goals as goal

pub returns-clause-line : goal.returns-clause-line
returns-clause-line c = begins_with_line

pub returns-clause-ends : goal.returns-clause-ends
returns-clause-ends c = log_ends

pub returns-clause-cuts : goal.returns-clause-cuts
returns-clause-cuts c = log_cuts

pub returns-clause-number : goal.returns-clause-number
returns-clause-number c = number_fits

pub returns-clause-fetches : goal.returns-clause-fetches
returns-clause-fetches c = fetches_are_few
