use Rattle.std.proofs.Common.{◌+◌, ◌*◌, ◌++◌, refl, ap, ◌∙◌, zero-add}
use Rattle.scene_gen.specs.Scene.{move_to, sprite_pointer}
use Rattle.scene_gen.proofs.Growth.{joined, next_part}
use Rattle.scene_gen.proofs.copper_list.push_sprite_pointers.Goals as goal

pub loop-k-preserved : goal.loop-k-preserved
loop-k-preserved c =
    let k = c.loop-k.k in
    let between = c.push_move.new.list.items in
    next_part sprite_pointer 0 k (k + 1) k c.args.list.now.items c.loop-k.list.items c.push_move-in-loop-k.new.list.items (zero-add k) refl
    c.loop-k.invariant
    (joined c.loop-k.list.items between c.push_move-in-loop-k.new.list.items (move_to (0x0120 + 4 * k) 0) _ c.in_ok-push_move.ensures
    (c.in_ok-push_move-2.ensures ∙ ap (λ a. between ++ move_to (0x0122 + 4 * k) a) c.address_of_sprite.ensures))
