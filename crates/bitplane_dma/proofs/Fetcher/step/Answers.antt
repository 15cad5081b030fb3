use Rattle.std.proofs.Common.{◌∙◌, ap, sym, subst}
use Rattle.serial_model.specs.PlaneFetch.{last_unit_at, IsLastUnit}
use Rattle.serial_model.proofs.FetchLaws.{last_unit-units_at}
use Rattle.bitplane_dma.proofs.Units.{last_early, asks_none_early, stays_early}
use Rattle.bitplane_dma.proofs.Fetcher.step.Goals as goal

pub returns-in_err-start-clause-units : goal.returns-in_err-start-clause-units
returns-in_err-start-clause-units c units stands =
    c.begin.ensures ∙ ap (λ last. last_unit_at c.args.beam.now c.args.regs.now last) stands
    ∙ sym (last_unit-units_at c.args.beam.now c.args.regs.now units)

pub returns-clause-units : goal.returns-clause-units
returns-clause-units c units stands =
    c.begin.ensures ∙ ap (λ last. last_unit_at c.args.beam.now c.args.regs.now last) stands
    ∙ sym (last_unit-units_at c.args.beam.now c.args.regs.now units)

-- no unit begins or runs so early
pub returns-then-beam-lt-FIRST_FETCH-clause-units : goal.returns-then-beam-lt-FIRST_FETCH-clause-units
returns-then-beam-lt-FIRST_FETCH-clause-units c units stands =
    let at : IsLastUnit c.args.self.now = subst IsLastUnit c.self.view_is c.self.invariant in
    sym (last_early c.args.beam.now c.args.regs.now c.args.self.now c.if-beam-ne0.true c.if-beam-lt-FIRST_FETCH.true at)
    ∙ ap (λ last. last_unit_at c.args.beam.now c.args.regs.now last) stands
    ∙ sym (last_unit-units_at c.args.beam.now c.args.regs.now units)

pub returns-then-beam-lt-FIRST_FETCH-clause-last : goal.returns-then-beam-lt-FIRST_FETCH-clause-last
returns-then-beam-lt-FIRST_FETCH-clause-last c =
    let at : IsLastUnit c.args.self.now = subst IsLastUnit c.self.view_is c.self.invariant in
    sym (last_early c.args.beam.now c.args.regs.now c.args.self.now c.if-beam-ne0.true c.if-beam-lt-FIRST_FETCH.true at)

pub returns-then-beam-lt-FIRST_FETCH-clause-ask : goal.returns-then-beam-lt-FIRST_FETCH-clause-ask
returns-then-beam-lt-FIRST_FETCH-clause-ask c =
    let at : IsLastUnit c.args.self.now = subst IsLastUnit c.self.view_is c.self.invariant in
    asks_none_early c.args.beam.now.h c.args.regs.now c.args.self.now c.if-beam-lt-FIRST_FETCH.true at

pub returns-then-beam-lt-FIRST_FETCH-clause-moved : goal.returns-then-beam-lt-FIRST_FETCH-clause-moved
returns-then-beam-lt-FIRST_FETCH-clause-moved c =
    let at : IsLastUnit c.args.self.now = subst IsLastUnit c.self.view_is c.self.invariant in
    stays_early c.args.beam.now.h c.args.regs.now c.args.self.now c.if-beam-lt-FIRST_FETCH.true at
