use Rattle.quiet_clocks.proofs.QuietTurns.{waits_through, stays_off, stays_halted, stays_stopped, loses_slot}
use Rattle.quiet_clocks.proofs.laws.quiet_turns.Goals as goal

pub returns-clause-waits : goal.returns-clause-waits
returns-clause-waits c = waits_through

pub returns-clause-off : goal.returns-clause-off
returns-clause-off c = stays_off

pub returns-clause-halted : goal.returns-clause-halted
returns-clause-halted c = stays_halted

pub returns-clause-stopped : goal.returns-clause-stopped
returns-clause-stopped c = stays_stopped

pub returns-clause-loses : goal.returns-clause-loses
returns-clause-loses c = loses_slot
