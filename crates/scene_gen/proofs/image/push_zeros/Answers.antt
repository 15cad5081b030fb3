use Rattle.std.proofs.Common.{◌≡◌, ◌+◌, ◌-◌, length, arith}
use Rattle.scene_gen.proofs.Growth.{next_zero}
use Rattle.scene_gen.proofs.image.push_zeros.Goals as goal

pub loop-preserved : goal.loop-preserved
loop-preserved c =
    let size = length c.args.image.now.items in
    let more : c.loop.counter - size + 1 ≡ c.loop.counter + 1 - size = omega arith in
    next_zero (c.loop.counter - size) (c.loop.counter + 1 - size) c.args.image.now.items c.loop.image.items c.push.new.self.items more
    c.loop.invariant c.in_ok-push.ensures.items
