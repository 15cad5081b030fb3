-- The clocks so far are of earlier frames.
use Rattle.std.proofs.Common.{◌-◌, ◌*◌}
use Rattle.slots_run.proofs.SlotRunLaws.{Going}
use Rattle.slots_run.proofs.slot_run.SlotRun.go_to_frame.Given as goal

abbrev pub invariant-loop-self : goal.invariant-loop-self
invariant-loop-self l = Going l.frame l.fn.self l.self

abbrev pub decreases-loop-self : goal.decreases-loop-self
decreases-loop-self l = l.frame * 71364 - l.self.fore.machine.t
