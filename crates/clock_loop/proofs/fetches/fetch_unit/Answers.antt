use Rattle.std.proofs.Common.{◌≡◌, ◌<◌, ℕ, ◌+◌, ◌-◌, min, IfSome, arith, subst}
use Rattle.bitplane_dma.specs.Quiet.{IsUnitAt}
use Rattle.clock_loop.proofs.UnitLaws.{unit_fetched, unit_noted, nothing_fetched, nothing_noted}
use Rattle.clock_loop.proofs.fetches.fetch_unit.Goals as goal

-- a unit that runs has a clock at least
some_left : (n most start h : ℕ) → 0 < most → h < start + 8 → n ≡ min most (start + 8 - h) → 0 < n
some_left n most start h some high is = omega (arith, some, high, is)

pub returns-in_default-clause-machine : goal.returns-in_default-clause-machine
returns-in_default-clause-machine g c =
    nothing_fetched c.args.machine.now c.plane_unit.new.self c.plane_unit.ensures.last (c.plane_unit.ensures.none c.in_default.is)

pub returns-in_default-clause-log : goal.returns-in_default-clause-log
returns-in_default-clause-log g c =
    nothing_noted c.args.machine.now c.plane_unit.new.self c.args.log.now c.plane_unit.ensures.last (c.plane_unit.ensures.none c.in_default.is)

pub returns-clause-machine : goal.returns-clause-machine
returns-clause-machine g c =
    let h : ℕ = c.args.machine.now.beam.h in
    let unit : IsUnitAt c.in-Some.start h c.plane_unit.new.self.last =
    subst (λ r. IfSome r (λ start. IsUnitAt start h c.plane_unit.new.self.last)) c.in-Some.is c.plane_unit.ensures.some in
    unit_fetched c.min-clocks.result c.in-Some.start c.args.machine.now c.plane_unit.new.self c.fetch_slots.new.chips c.requires.inner
    (some_left c.min-clocks.result c.args.most c.in-Some.start h c.requires.some unit.high c.min-clocks.ensures)
    c.plane_unit.ensures.last unit c.in_ok-fetch_slots.ensures.chips

pub returns-clause-log : goal.returns-clause-log
returns-clause-log g c =
    let h : ℕ = c.args.machine.now.beam.h in
    let unit : IsUnitAt c.in-Some.start h c.plane_unit.new.self.last =
    subst (λ r. IfSome r (λ start. IsUnitAt start h c.plane_unit.new.self.last)) c.in-Some.is c.plane_unit.ensures.some in
    unit_noted c.min-clocks.result c.in-Some.start c.args.machine.now c.plane_unit.new.self c.args.log.now _ c.requires.inner
    (some_left c.min-clocks.result c.args.most c.in-Some.start h c.requires.some unit.high c.min-clocks.ensures)
    c.plane_unit.ensures.last unit c.in_ok-fetch_slots.ensures.log
