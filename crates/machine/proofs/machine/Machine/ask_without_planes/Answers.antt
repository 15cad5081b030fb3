use Rattle.std.proofs.Common.{◌+◌, None, refl, arith}
use Rattle.chip_set.proofs.BusLaws.{timers_kept, beside_kept, leaves_beside_kept, unit_kept}
use Rattle.machine.specs.Machine.{machine_over}
use Rattle.machine.proofs.AskedLaws.{asks_alone}
use Rattle.machine.proofs.machine.Machine.ask_without_planes.Goals as goal

pub ask_without_planes-requires : goal.ask_without_planes-requires
ask_without_planes-requires g c =
    let now = c.args.self.now.chips in
    let counted = c.count_or_rest-later.new.self in
    let kept = timers_kept now counted c.count_or_rest-later.ensures.kept in
    record {
      leaves = leaves_beside_kept None c.args.self.now.beam now counted (beside_kept None now counted kept) c.requires.leaves;
      unit = unit_kept c.args.unit.now c.args.self.now.beam.h now counted kept c.requires.unit;
    }

pub returns-clause-asks : goal.returns-clause-asks
returns-clause-asks g c =
    asks_alone (machine_over g.S.Side.seen c.args.self.now) _ c.count_or_rest-later.new.self _ c.requires.side c.count_or_rest-later.ensures.chips
    c.ask_without_planes.ensures.ask c.ask_without_planes.ensures.chips refl

pub returns-clause-kept : goal.returns-clause-kept
returns-clause-kept g c =
    let now = c.args.self.now.chips in
    let counted = c.count_or_rest-later.new.self in
    beside_kept None now counted (timers_kept now counted c.count_or_rest-later.ensures.kept)

pub returns-clause-rest : goal.returns-clause-rest
returns-clause-rest g c k below =
    let known = c.clocks_of_interest.ensures.known in
    c.count_or_rest-later.ensures.rest k (omega (arith, below, known))
