use Rattle.std.proofs.Common.{◌≡◌, ◌++◌, take}
use Rattle.scene_gen.specs.Scene.{pokes_at}
use Rattle.scene_gen.proofs.inputs.push_pokes.Given as goal

abbrev pub invariant-loop-register : goal.invariant-loop-register
invariant-loop-register l =
    l.script ≡ record l.fn.script { events = l.fn.script.events ++ pokes_at l.frame l.v (take l.register-index l.pokes) }
