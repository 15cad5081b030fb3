-- A number that names a colour has at most five planes.
use Rattle.std.proofs.Common.{arith, ◌≤◌}
use Rattle.priority_ham.specs.PlaneCount.{planes_of}
use Rattle.priority_ham.proofs.Within.{below, at_most_six, four_in_hires}
use Rattle.priority_ham.proofs.playfield.colour_of.Goals as goal

pub bounds-palette-bits : goal.bounds-palette-bits
bounds-palette-bits c =
    let few : planes_of c.args.con0 ≤ 5 = omega (arith, four_in_hires c.args.con0 c.if-con0-eq1-2.true) in
    below c.args.bits (planes_of c.args.con0) 5 few c.requires.bits

pub modify-requires-clause-bits : goal.modify-requires-clause-bits
modify-requires-clause-bits c = below c.args.bits (planes_of c.args.con0) 6 (at_most_six c.args.con0) c.requires.bits

pub bounds-palette-bits-else-plane_count-eq6 : goal.bounds-palette-bits-else-plane_count-eq6
bounds-palette-bits-else-plane_count-eq6 c =
    let few : planes_of c.args.con0 ≤ 5 = omega (arith, c.plane_count.ensures.value, c.plane_count.ensures.few) in
    below c.args.bits (planes_of c.args.con0) 5 few c.requires.bits
