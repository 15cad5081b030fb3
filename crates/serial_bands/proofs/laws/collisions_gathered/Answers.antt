use Rattle.serial_bands.proofs.Gathering.{gathered_first, gathered_more, gathered_more_in, gathered_whole, gathered_start}
use Rattle.serial_bands.proofs.Gathering.{gathered_cleared, gathered_at_access, gathered_next, gathered_read, clx_of_range}
use Rattle.serial_bands.proofs.laws.collisions_gathered.Goals as goal

pub returns-clause-first : goal.returns-clause-first
returns-clause-first c = gathered_first

pub returns-clause-more : goal.returns-clause-more
returns-clause-more c = gathered_more

pub returns-clause-more_in : goal.returns-clause-more_in
returns-clause-more_in c = gathered_more_in

pub returns-clause-whole : goal.returns-clause-whole
returns-clause-whole c = gathered_whole

pub returns-clause-start : goal.returns-clause-start
returns-clause-start c = gathered_start

pub returns-clause-cleared : goal.returns-clause-cleared
returns-clause-cleared c = gathered_cleared

pub returns-clause-access : goal.returns-clause-access
returns-clause-access c = gathered_at_access

pub returns-clause-next : goal.returns-clause-next
returns-clause-next c = gathered_next

pub returns-clause-read : goal.returns-clause-read
returns-clause-read c = gathered_read

pub returns-clause-range : goal.returns-clause-range
returns-clause-range c = clx_of_range
