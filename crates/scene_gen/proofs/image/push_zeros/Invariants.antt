use Rattle.std.proofs.Common.{◌≡◌, ◌-◌, ◌++◌, length, replicate}
use Rattle.scene_gen.proofs.image.push_zeros.Given as goal

abbrev pub invariant-loop : goal.invariant-loop
invariant-loop l = l.image.items ≡ l.fn.image.items ++ replicate (l.counter - length l.fn.image.items) 0
