use Rattle.std.proofs.Common.{◌≡◌, ◌-◌, ◌++◌}
use Rattle.scene_gen.specs.Blocks.{bytes_by}
use Rattle.scene_gen.specs.Scene.{pattern_byte}
use Rattle.scene_gen.proofs.image.push_planes.Given as goal

abbrev pub invariant-loop-address : goal.invariant-loop-address
invariant-loop-address l = l.image.items ≡ l.fn.image.items ++ bytes_by (pattern_byte l.n) 0x4000 (l.address - 0x4000)
