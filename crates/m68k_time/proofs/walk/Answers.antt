use Rattle.m68k_time.proofs.Stages.{walk_ends, walk_breaks_off, walk_begins, walk_goes_on}
use Rattle.m68k_time.proofs.EndTime.{walk_time}
use Rattle.m68k_time.proofs.walk.Goals as goal

pub returns-clause-ends : goal.returns-clause-ends
returns-clause-ends c = walk_ends

pub returns-clause-breaks_off : goal.returns-clause-breaks_off
returns-clause-breaks_off c = walk_breaks_off

pub returns-clause-begins : goal.returns-clause-begins
returns-clause-begins c = walk_begins

pub returns-clause-goes_on : goal.returns-clause-goes_on
returns-clause-goes_on c = walk_goes_on

pub returns-clause-time : goal.returns-clause-time
returns-clause-time c = walk_time
