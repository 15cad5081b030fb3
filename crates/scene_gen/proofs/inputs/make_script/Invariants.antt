use Rattle.std.proofs.Common.{◌≡◌, true, flat_map}
use Rattle.std.specs.List.{range_with_len}
use Rattle.ocs_base.specs.declared.chip_size.ChipSize.TheVariants.{Kib512}
use Rattle.ocs_base.specs.declared.system.System.TheVariants.{Pal}
use Rattle.scene_gen.specs.Scene.{frame_events}
use Rattle.scene_gen.proofs.inputs.make_script.Given as goal

abbrev pub invariant-loop-frame : goal.invariant-loop-frame
invariant-loop-frame l =
    l.script
    ≡ record { cpu = true; frames = 10; chip = Kib512; system = Pal; events = flat_map (frame_events l.n) (range_with_len 0 l.frame) }
