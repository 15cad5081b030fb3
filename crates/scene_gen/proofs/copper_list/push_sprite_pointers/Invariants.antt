use Rattle.std.proofs.Common.{◌≡◌, ◌++◌, flat_map}
use Rattle.std.specs.List.{range_with_len}
use Rattle.scene_gen.specs.Scene.{sprite_pointer}
use Rattle.scene_gen.proofs.copper_list.push_sprite_pointers.Given as goal

abbrev pub invariant-loop-k : goal.invariant-loop-k
invariant-loop-k l = l.list.items ≡ l.fn.list.items ++ flat_map sprite_pointer (range_with_len 0 l.k)
