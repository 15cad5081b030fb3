-- A clock within a line: what it need not look at does nothing.
use Rattle.std.proofs.Common.{ap}
use Rattle.serial_model.specs.declared.bus.Ask.TheVariants as A
use Rattle.chip_set.proofs.BusLaws.{claim_kept}
use Rattle.chip_set.specs.Chips.{late_ask}
use Rattle.foreground.specs.Fore.{over}
use Rattle.clock_loop.specs.code.BusRun.{HasAskedFor}
use Rattle.clock_loop.proofs.EndLaws.{clock_by_end, part_by_end, bus_by_end, unit_by_end}
use Rattle.clock_loop.proofs.bus.clock_on_bus.Goals as goal

pub plane_clock-requires-clause-asked : goal.plane_clock-requires-clause-asked
plane_clock-requires-clause-asked g c =
    let of = over g.S.Side.seen in
    let can = c.requires.can in
    let asks = c.ask.ensures in
    let asked : HasAskedFor (A.Plane c.in-Some.ask) (of c.args.fore.now) (of c.ask.new.fore) =
    record { asks = c.in-Some.ensures.asks; able = c.in-Some.ensures.able; wish = c.in-Some.ensures.wish; same = ap of asks.same } in
    (of c.args.fore.now, can.0, can.1.within, asked)

pub returns-in-Some-clause-made : goal.returns-in-Some-clause-made
returns-in-Some-clause-made g c =
    let of = over g.S.Side.seen in
    let can = c.requires.can in
    let asks = c.ask.ensures in
    let asked : HasAskedFor (A.Plane c.in-Some.ask) (of c.args.fore.now) (of c.ask.new.fore) =
    record { asks = c.in-Some.ensures.asks; able = c.in-Some.ensures.able; wish = c.in-Some.ensures.wish; same = ap of asks.same } in
    clock_by_end _ (of c.args.fore.now) (of c.ask.new.fore) (of c.plane_clock.new.fore) can.0 _ _ c.plane_clock.result can.1.within asked
    c.plane_clock.ensures.ends

pub returns-in-Some-clause-part : goal.returns-in-Some-clause-part
returns-in-Some-clause-part g c =
    let of = over g.S.Side.seen in
    let can = c.requires.can in
    let asks = c.ask.ensures in
    let asked : HasAskedFor (A.Plane c.in-Some.ask) (of c.args.fore.now) (of c.ask.new.fore) =
    record { asks = c.in-Some.ensures.asks; able = c.in-Some.ensures.able; wish = c.in-Some.ensures.wish; same = ap of asks.same } in
    part_by_end _ (of c.args.fore.now) (of c.ask.new.fore) (of c.plane_clock.new.fore) can.0 _ _ c.plane_clock.result can.1.within asked
    c.plane_clock.ensures.ends

pub returns-in-Some-clause-bus : goal.returns-in-Some-clause-bus
returns-in-Some-clause-bus g c =
    let of = over g.S.Side.seen in
    let can = c.requires.can in
    let asks = c.ask.ensures in
    let asked : HasAskedFor (A.Plane c.in-Some.ask) (of c.args.fore.now) (of c.ask.new.fore) =
    record { asks = c.in-Some.ensures.asks; able = c.in-Some.ensures.able; wish = c.in-Some.ensures.wish; same = ap of asks.same } in
    bus_by_end (g.T.Turn.rules c.args.turn.now) _ _ _ (of c.args.fore.now) (of c.ask.new.fore) (of c.plane_clock.new.fore) can.0 _ _ c.plane_clock.result
    can.1.within asked
    c.plane_clock.ensures.ends asks.bus (ap g.S.Side.seen asks.side) asks.rest c.plane_clock.ensures.rest

pub returns-in-Some-clause-unit : goal.returns-in-Some-clause-unit
returns-in-Some-clause-unit g c =
    let of = over g.S.Side.seen in
    let can = c.requires.can in
    let asks = c.ask.ensures in
    let asked : HasAskedFor (A.Plane c.in-Some.ask) (of c.args.fore.now) (of c.ask.new.fore) =
    record { asks = c.in-Some.ensures.asks; able = c.in-Some.ensures.able; wish = c.in-Some.ensures.wish; same = ap of asks.same } in
    unit_by_end c.ask.new.unit _ (of c.args.fore.now) (of c.ask.new.fore) (of c.plane_clock.new.fore) can.0 _ _ c.plane_clock.result
    can.1.within asked
    c.plane_clock.ensures.ends asks.unit

pub clock-requires-clause-asked : goal.clock-requires-clause-asked
clock-requires-clause-asked g c =
    let of = over g.S.Side.seen in
    let can = c.requires.can in
    let asks = c.ask.ensures in
    let asked : HasAskedFor (late_ask c.ask.new.fore.machine.beam c.ask.new.fore.machine.chips) (of c.args.fore.now)
    (of c.ask.new.fore) =
    record { asks = c.in-None.ensures.asks; able = c.in-None.ensures.able; wish = c.in-None.ensures.wish; same = ap of asks.same } in
    (of c.args.fore.now, can.0, can.1.within, asked)

pub clock-requires-clause-claim : goal.clock-requires-clause-claim
clock-requires-clause-claim g c =
    claim_kept _ (g.T.Turn.rules c.args.turn.now) c.args.fore.now.machine.chips c.ask.new.fore.machine.chips c.ask.ensures.bus c.requires.can.1.claims

pub returns-in-None-clause-made : goal.returns-in-None-clause-made
returns-in-None-clause-made g c =
    let of = over g.S.Side.seen in
    let can = c.requires.can in
    let asks = c.ask.ensures in
    let asked : HasAskedFor (late_ask c.ask.new.fore.machine.beam c.ask.new.fore.machine.chips) (of c.args.fore.now)
    (of c.ask.new.fore) =
    record { asks = c.in-None.ensures.asks; able = c.in-None.ensures.able; wish = c.in-None.ensures.wish; same = ap of asks.same } in
    clock_by_end _ (of c.args.fore.now) (of c.ask.new.fore) (of c.clock.new.fore) can.0 _ _ c.clock.result can.1.within asked c.clock.ensures.ends

pub returns-in-None-clause-part : goal.returns-in-None-clause-part
returns-in-None-clause-part g c =
    let of = over g.S.Side.seen in
    let can = c.requires.can in
    let asks = c.ask.ensures in
    let asked : HasAskedFor (late_ask c.ask.new.fore.machine.beam c.ask.new.fore.machine.chips) (of c.args.fore.now)
    (of c.ask.new.fore) =
    record { asks = c.in-None.ensures.asks; able = c.in-None.ensures.able; wish = c.in-None.ensures.wish; same = ap of asks.same } in
    part_by_end _ (of c.args.fore.now) (of c.ask.new.fore) (of c.clock.new.fore) can.0 _ _ c.clock.result can.1.within asked c.clock.ensures.ends

pub returns-in-None-clause-bus : goal.returns-in-None-clause-bus
returns-in-None-clause-bus g c =
    let of = over g.S.Side.seen in
    let can = c.requires.can in
    let asks = c.ask.ensures in
    let asked : HasAskedFor (late_ask c.ask.new.fore.machine.beam c.ask.new.fore.machine.chips) (of c.args.fore.now)
    (of c.ask.new.fore) =
    record { asks = c.in-None.ensures.asks; able = c.in-None.ensures.able; wish = c.in-None.ensures.wish; same = ap of asks.same } in
    bus_by_end (g.T.Turn.rules c.args.turn.now) _ _ _ (of c.args.fore.now) (of c.ask.new.fore) (of c.clock.new.fore) can.0 _ _ c.clock.result can.1.within asked
    c.clock.ensures.ends asks.bus (ap g.S.Side.seen asks.side) asks.rest c.clock.ensures.rest

pub returns-in-None-clause-unit : goal.returns-in-None-clause-unit
returns-in-None-clause-unit g c =
    let of = over g.S.Side.seen in
    let can = c.requires.can in
    let asks = c.ask.ensures in
    let asked : HasAskedFor (late_ask c.ask.new.fore.machine.beam c.ask.new.fore.machine.chips) (of c.args.fore.now)
    (of c.ask.new.fore) =
    record { asks = c.in-None.ensures.asks; able = c.in-None.ensures.able; wish = c.in-None.ensures.wish; same = ap of asks.same } in
    unit_by_end c.ask.new.unit _ (of c.args.fore.now) (of c.ask.new.fore) (of c.clock.new.fore) can.0 _ _ c.clock.result can.1.within asked
    c.clock.ensures.ends asks.unit
