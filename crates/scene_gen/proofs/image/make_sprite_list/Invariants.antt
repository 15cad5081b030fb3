use Rattle.std.proofs.Common.{◌≡◌, ◌+◌, ◌%◌, ◌∷◌, [], replicate}
use Rattle.std.specs.List.{concat}
use Rattle.scene_gen.proofs.image.make_sprite_list.Given as goal

abbrev pub invariant-loop : goal.invariant-loop
invariant-loop l = l.words.items ≡ (0x3c40 + l.n % 64) ∷ 0x4c00 ∷ concat (replicate l.counter (0xffff ∷ 0x0f0f ∷ []))
