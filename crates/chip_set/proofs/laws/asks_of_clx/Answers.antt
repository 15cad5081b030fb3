use Rattle.chip_set.proofs.ClxLaws.{clx_read, clx_alone}
use Rattle.chip_set.proofs.laws.asks_of_clx.Goals as goal

pub returns-clause-read : goal.returns-clause-read
returns-clause-read c = clx_read

pub returns-clause-alone : goal.returns-clause-alone
returns-clause-alone c = clx_alone
