use Rattle.std.proofs.Common.{◌+◌, Some, refl, arith}
use Rattle.chip_set.proofs.BusLaws.{timers_kept, beside_kept, beside_then, leaves_beside_kept, rest_kept, unit_kept}
use Rattle.machine.specs.Machine.{machine_over}
use Rattle.machine.proofs.AskedLaws.{asks_alone}
use Rattle.machine.proofs.machine.Machine.ask_on_bus.Goals as goal

pub ask_on_bus-requires : goal.ask_on_bus-requires
ask_on_bus-requires g c =
    let now = c.args.self.now.chips in
    let counted = c.count_or_rest-later.new.self in
    let kept = timers_kept now counted c.count_or_rest-later.ensures.kept in
    record {
      leaves = leaves_beside_kept (Some c.args.rules.now) c.args.self.now.beam now counted (beside_kept (Some c.args.rules.now) now counted kept)
          c.requires.leaves;
      unit = unit_kept c.args.unit.now c.args.self.now.beam.h now counted kept c.requires.unit;
    }

pub returns-clause-asks : goal.returns-clause-asks
returns-clause-asks g c =
    asks_alone (machine_over g.S.Side.seen c.args.self.now) _ c.count_or_rest-later.new.self _ c.requires.side c.count_or_rest-later.ensures.chips
    c.ask_on_bus.ensures.ask c.ask_on_bus.ensures.chips refl

pub returns-clause-kept : goal.returns-clause-kept
returns-clause-kept g c =
    let now = c.args.self.now.chips in
    let counted = c.count_or_rest-later.new.self in
    beside_then (Some c.args.rules.now) now counted c.ask_on_bus.new.self
    (beside_kept (Some c.args.rules.now) now counted (timers_kept now counted c.count_or_rest-later.ensures.kept)) c.ask_on_bus.ensures.kept

pub returns-clause-rest : goal.returns-clause-rest
returns-clause-rest g c =
    let known = c.clocks_of_interest.ensures.known in
    rest_kept (c.args.self.now.t + 1) c.clocks_of_interest.result c.count_or_rest-later.new.self c.ask_on_bus.new.self c.ask_on_bus.ensures.cias
    (λ k below. c.count_or_rest-later.ensures.rest k (omega (arith, below, known)))
