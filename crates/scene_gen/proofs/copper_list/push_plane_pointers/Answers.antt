use Rattle.std.proofs.Common.{◌≡◌, ◌+◌, ◌-◌, ◌*◌, ◌++◌, flat_map, ap, ◌∙◌, arith}
use Rattle.std.specs.List.{range_with_len}
use Rattle.scene_gen.specs.Scene.{move_to, plane_pointer}
use Rattle.scene_gen.proofs.Growth.{joined, next_part}
use Rattle.scene_gen.proofs.copper_list.push_plane_pointers.Goals as goal

pub loop-p-preserved : goal.loop-p-preserved
loop-p-preserved c =
    let p = c.loop-p.p in
    let at : 1 + (p - 1) ≡ p = omega arith in
    let more : p - 1 + 1 ≡ p + 1 - 1 = omega arith in
    next_part plane_pointer 1 (p - 1) (p + 1 - 1) p c.args.list.now.items c.loop-p.list.items c.push_move-in-loop-p.new.list.items at more
    c.loop-p.invariant
    (joined c.loop-p.list.items c.push_move.new.list.items c.push_move-in-loop-p.new.list.items (move_to (0x00e0 + 4 * (p - 1)) 0)
    (move_to (0x00e2 + 4 * (p - 1)) (0x2000 * (p + 1))) c.in_ok-push_move.ensures c.in_ok-push_move-2.ensures)

pub returns : goal.returns
returns c =
    let all : c.loop-p.p - 1 ≡ 4 = omega arith in
    c.loop-p.invariant ∙ ap (λ n. c.args.list.now.items ++ flat_map plane_pointer (range_with_len 1 n)) all
