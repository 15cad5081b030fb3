-- The clocks up to the present one were visited.
use Rattle.std.proofs.Common.{◌-◌}
use Rattle.rewind_loop.proofs.GoLaws.{Ran}
use Rattle.rewind_loop.proofs.rewind.Rewind.run_to.Given as goal

abbrev pub invariant-loop-self : goal.invariant-loop-self
invariant-loop-self l = Ran l.fn.self l.self l.clock

abbrev pub decreases-loop-self : goal.decreases-loop-self
decreases-loop-self l = l.clock - l.self.fore.machine.t
