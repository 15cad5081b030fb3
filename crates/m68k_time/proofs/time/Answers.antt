use Rattle.m68k_time.proofs.Entries.{address_error_time, trace_time, interrupt_time}
use Rattle.m68k_time.proofs.Whole.{instruction_time, exception_time, reset_time, stopped_time}
use Rattle.m68k_time.proofs.time.Goals as goal

pub returns-clause-instructions : goal.returns-clause-instructions
returns-clause-instructions c = instruction_time

pub returns-clause-exceptions : goal.returns-clause-exceptions
returns-clause-exceptions c = exception_time

pub returns-clause-address_errors : goal.returns-clause-address_errors
returns-clause-address_errors c = address_error_time

pub returns-clause-traces : goal.returns-clause-traces
returns-clause-traces c = trace_time

pub returns-clause-interrupts : goal.returns-clause-interrupts
returns-clause-interrupts c = interrupt_time

pub returns-clause-reset : goal.returns-clause-reset
returns-clause-reset c = reset_time

pub returns-clause-stopped : goal.returns-clause-stopped
returns-clause-stopped c = stopped_time
