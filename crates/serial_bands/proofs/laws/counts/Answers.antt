use Rattle.serial_bands.proofs.Counts.{no_tint, access_reads_few, latched_are_few}
use Rattle.serial_bands.proofs.laws.counts.Goals as goal

pub returns-clause-tint : goal.returns-clause-tint
returns-clause-tint c = no_tint

pub returns-clause-access : goal.returns-clause-access
returns-clause-access c = access_reads_few

pub returns-clause-latched : goal.returns-clause-latched
returns-clause-latched c = latched_are_few
