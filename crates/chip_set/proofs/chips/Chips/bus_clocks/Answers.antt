use Rattle.std.proofs.Common.{◌≤◌, arith, subst}
use Rattle.serial_model.specs.PlaneFetch.{IsLastUnit}
use Rattle.chip_set.specs.Chips.{WorkingChips}
use Rattle.chip_set.proofs.BusLaws.{alone_on_bus}
use Rattle.chip_set.proofs.chips.Chips.bus_clocks.Goals as goal

pub returns-then-alone-gt0-clause-leave : goal.returns-then-alone-gt0-clause-leave
returns-then-alone-gt0-clause-leave c some k below =
    let most : c.rest-alone.result ≤ c.clocks_beside_planes-clocks.result = c.rest-alone.ensures.most in
    let begun = subst (λ (now : WorkingChips). IsLastUnit now.last) c.self.view_is c.rest-alone.ensures.begun in
    alone_on_bus c.args.beam.now k _ _ c.self.view_is (c.clocks_beside_planes-clocks.ensures.leave begun k (omega (arith, below, most)))
    (c.rest-alone.ensures.none k below) (c.rest-alone.ensures.rest k below)

pub returns-clause-leave : goal.returns-clause-leave
returns-clause-leave c some k below =
    let begun = subst (λ (now : WorkingChips). IsLastUnit now.last) c.self.view_is c.before_last_fetch-fetches.ensures.begun in
    (c.clocks_beside_planes-clocks.ensures.leave begun k (omega (arith, below, c.with_few_behind.ensures)), c.fetch_rules.ensures)
