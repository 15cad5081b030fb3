use Rattle.std.proofs.Common.{true, false}
use Rattle.m68k_exec.specs.Stopped.{is_end_step}
use Rattle.m68k_exec.proofs.Stopping.{none_made, not_ended}
use Rattle.std.proofs.Common.{ap}
use Rattle.m68k_exec.proofs.state.Cpu.is_stopped.Goals as goal

-- src/stopped.rt:14:5
pub returns-in-Ended : goal.returns-in-Ended
returns-in-Ended c r u ws s = none_made c.args.self.now r u ws true s c.if-self-eq0.true (ap is_end_step c.in-Ended.is)

-- src/stopped.rt:14:5
pub returns-in_default : goal.returns-in_default
returns-in_default c r u ws s = none_made c.args.self.now r u ws false s c.if-self-eq0.true (not_ended c.args.self.now.machine.step c.in_default.not-Ended)
