-- The clocks so far are of earlier frames, and the log has them.
use Rattle.std.proofs.Common.{◌≡◌, ◌-◌, ◌*◌, ◌++◌}
use Rattle.slots_run.specs.Log.{log_text}
use Rattle.slots_run.specs.code.SlotRun.{run_in}
use Rattle.slots_run.proofs.SlotRunLaws.{Going}
use Rattle.slots_run.proofs.slot_run.SlotRun.note_to_frame.Given as goal

abbrev pub invariant-loop-self : goal.invariant-loop-self
invariant-loop-self l =
    record {
      going : Going l.frame l.fn.self l.self;
      noted : l.text.items ≡ l.fn.text.items
          ++ log_text (run_in l.fn.self).image (run_in l.fn.self).script l.fn.self.fore.machine.t
          (l.self.fore.machine.t - l.fn.self.fore.machine.t);
    }

abbrev pub decreases-loop-self : goal.decreases-loop-self
decreases-loop-self l = l.frame * 71364 - l.self.fore.machine.t
