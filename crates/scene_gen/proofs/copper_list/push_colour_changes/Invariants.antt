use Rattle.std.proofs.Common.{◌≡◌, ◌++◌, flat_map}
use Rattle.std.specs.List.{range_with_len}
use Rattle.scene_gen.specs.Scene.{colour_change}
use Rattle.scene_gen.proofs.copper_list.push_colour_changes.Given as goal

abbrev pub invariant-loop-i : goal.invariant-loop-i
invariant-loop-i l = l.list.items ≡ l.fn.list.items ++ flat_map (colour_change l.n) (range_with_len 0 l.i)
