use Rattle.std.proofs.Common.{◌+◌, ◌*◌, arith}
use Rattle.painter.proofs.Covering.{column_reached, steady_first, steady_second, steady_pixels, steady_bits}
use Rattle.painter.proofs.Overlays.{after_first, after_second}
use Rattle.painter.proofs.painter.Painter.cover_clock.Goals as goal

pub returns-then-clx-steady-clause-pixels : goal.returns-then-clx-steady-clause-pixels
returns-then-clx-steady-clause-pixels c p stands =
    let h = c.args.h in
    let now = c.args.self.now in
    steady_pixels c.args.v h now p c.args.into.now c.put_front.new.into c.put_front-2.new.into stands c.told-into c.requires.first c.requires.second
    (c.put_front.ensures (after_first h p) (steady_first h now p stands c.requires.steady))
    (c.put_front-2.ensures (after_second h p) (steady_second h now p stands c.requires.steady))

pub returns-clause-pixels : goal.returns-clause-pixels
returns-clause-pixels c p stands =
    let h = c.args.h in
    let now = c.args.self.now in
    steady_pixels c.args.v h now p c.args.into.now c.put_front.new.into c.put_front-2.new.into stands c.told-into c.requires.first c.requires.second
    (c.put_front.ensures (after_first h p) (steady_first h now p stands c.requires.steady))
    (c.put_front-2.ensures (after_second h p) (steady_second h now p stands c.requires.steady))

pub returns-then-clx-steady-clause-clx : goal.returns-then-clx-steady-clause-clx
returns-then-clx-steady-clause-clx c p stands =
    let h = c.args.h in
    let now = c.args.self.now in
    let clx = c.args.clx.now in
    let reach = c.args.steady.now.reach in
    steady_bits c.args.v h clx clx clx now p stands c.requires.first c.requires.second
    (column_reached (2 * h) clx reach now (after_first h p) (steady_first h now p stands c.requires.steady)
    (λ con bits. c.requires.holds.reach (2 * h) con bits (omega arith) (omega (arith, c.requires.place))) (grind arith))
    (column_reached (2 * h + 1) clx reach now (after_second h p) (steady_second h now p stands c.requires.steady)
    (λ con bits. c.requires.holds.reach (2 * h + 1) con bits (omega arith) (omega (arith, c.requires.place))) (grind arith))

pub returns-clause-clx : goal.returns-clause-clx
returns-clause-clx c p stands =
    let h = c.args.h in
    let now = c.args.self.now in
    steady_bits c.args.v h c.args.clx.now c.gather.new.clx c.gather-2.new.clx now p stands c.requires.first c.requires.second
    (c.gather.ensures (after_first h p) (steady_first h now p stands c.requires.steady))
    (c.gather-2.ensures (after_second h p) (steady_second h now p stands c.requires.steady))
