use Rattle.std.proofs.Common.{length}
use Rattle.serial_model.specs.Beam.{place_of}
use Rattle.machine.specs.Machine.{machine_over}
use Rattle.out_files.specs.Gives.{GivesLines}
use Rattle.foreground.specs.Script.{IsLeft, IsMachine, IsRest}
use Rattle.foreground.proofs.ScriptLaws.{HasDone}
use Rattle.foreground.proofs.script.run_script.Given as goal

abbrev pub invariant-loop-event : goal.invariant-loop-event
invariant-loop-event g l =
    (HasDone l.events l.left (machine_over g.S.Side.seen l.initial.machine) (machine_over g.S.Side.seen l.machine) l.initial.out l.out l.initial.log l.log
    l.initial.clx l.clx
    × IsLeft (place_of l.initial.machine.beam) l.left)
    × (GivesLines l.initial.out l.out × (IsMachine (machine_over g.S.Side.seen l.machine) × IsRest l.events l.left))

abbrev pub decreases-loop-event : goal.decreases-loop-event
decreases-loop-event g l = length l.left
