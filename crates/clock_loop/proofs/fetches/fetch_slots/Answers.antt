use Rattle.std.proofs.Common.{◌≡◌, ◌<◌, ◌+◌, ◌∙◌, Some, ap, arith, refl, subst, sym}
use Rattle.serial_model.specs.PlaneFetch.{IsLastUnit}
use Rattle.chip_set.specs.Chips.{WorkingChips}
use Rattle.quiet_clocks.specs.FetchClocks.{fetching_on}
use Rattle.clock_loop.specs.code.Fetches.{with_fetches}
use Rattle.clock_loop.proofs.UnitLaws.{slot_fetched, slot_noted}
use Rattle.clock_loop.proofs.fetches.fetch_slots.Goals as goal

pub loop-passed-init : goal.loop-passed-init
unfolding with_fetches fetching_on
loop-passed-init c = record {
  most = omega arith;
  chips = refl;
  unit = c.requires.unit;
  begun = c.requires.begun;
  log = refl;
  rules = c.requires.rules;
}

pub loop-passed-preserved : goal.loop-passed-preserved
loop-passed-preserved c =
    let k = c.loop-passed.passed in
    let low : c.args.beam.now.h + k < c.args.start + 8 = omega (arith, c.loop-passed-test.true, c.requires.high) in
    let unit : c.fetch_slot.new.chips.last ≡ Some c.args.start =
    ap (λ (now : WorkingChips). now.last) c.fetch_slot.ensures.chips ∙ c.loop-passed.invariant.unit in
    record {
      most = omega (arith, c.loop-passed-test.true);
      chips = slot_fetched k c.args.start c.args.beam.now c.args.chips.now c.loop-passed.chips c.fetch_slot.new.chips c.requires.inner c.requires.low low
          c.loop-passed.invariant.chips c.loop-passed.invariant.unit c.fetch_slot.ensures.chips;
      unit = unit;
      begun = subst IsLastUnit (sym (ap (λ (now : WorkingChips). now.last) c.fetch_slot.ensures.chips)) c.loop-passed.invariant.begun;
      log = slot_noted k c.args.start c.args.t c.args.beam.now c.args.chips.now c.loop-passed.chips c.args.log.now c.loop-passed.log _ c.requires.inner
          c.requires.low low c.loop-passed.invariant.chips c.loop-passed.invariant.unit c.loop-passed.invariant.log c.in_ok-fetch_slot.ensures.log;
      rules = c.loop-passed.invariant.rules ∙ sym (c.fetch_slot.ensures.same c.args.beam.now.v);
    }
