use Rattle.picture_log.proofs.Logging.{log_starts, log_begins, one_touch_more, log_shown, log_accessed, log_read, read_begins}
use Rattle.picture_log.proofs.laws.log_of_clocks.Goals as goal

pub returns-clause-starts : goal.returns-clause-starts
returns-clause-starts c = log_starts

pub returns-clause-begins : goal.returns-clause-begins
returns-clause-begins c = log_begins

pub returns-clause-touch : goal.returns-clause-touch
returns-clause-touch c = one_touch_more

pub returns-clause-shown : goal.returns-clause-shown
returns-clause-shown c = log_shown

pub returns-clause-accessed : goal.returns-clause-accessed
returns-clause-accessed c = log_accessed

pub returns-clause-read : goal.returns-clause-read
returns-clause-read c = log_read

pub returns-clause-after : goal.returns-clause-after
returns-clause-after c = read_begins
