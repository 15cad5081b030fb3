use Rattle.std.proofs.Common.{◌+◌, ◌*◌, ◌%◌, ◌++◌, refl, ap, ◌∙◌, zero-add}
use Rattle.scene_gen.specs.Scene.{move_to, wait_for, colour_change}
use Rattle.scene_gen.proofs.Growth.{joined, next_part}
use Rattle.scene_gen.proofs.copper_list.push_colour_changes.Goals as goal

pub loop-i-preserved : goal.loop-i-preserved
loop-i-preserved c =
    let i = c.loop-i.i in
    let between = c.push_wait.new.list.items in
    next_part (colour_change c.args.n) 0 i (i + 1) i c.args.list.now.items c.loop-i.list.items c.push_move.new.list.items (zero-add i) refl
    c.loop-i.invariant
    (joined c.loop-i.list.items between c.push_move.new.list.items (wait_for (48 + 8 * i)) _ c.in_ok-push_wait.ensures
    (c.in_ok-push_move.ensures ∙ ap (λ word. between ++ move_to (0x0182 + 2 * (i % 15)) word) c.colour.ensures))
