use Rattle.std.proofs.Common.{◌≡◌, ◌-◌, ◌++◌, flat_map}
use Rattle.std.specs.List.{range_with_len}
use Rattle.scene_gen.specs.Scene.{plane_pointer}
use Rattle.scene_gen.proofs.copper_list.push_plane_pointers.Given as goal

abbrev pub invariant-loop-p : goal.invariant-loop-p
invariant-loop-p l = l.list.items ≡ l.fn.list.items ++ flat_map plane_pointer (range_with_len 1 (l.p - 1))
