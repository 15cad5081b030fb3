use Rattle.std.proofs.Common.{◌≤◌, ℕ, arith, subst}
use Rattle.sprite_dma.specs.Quiet.{ReadsNothing}
use Rattle.serial_model.specs.Beam.{later_beam}
use Rattle.chip_set.specs.Chips.{WorkingChips}
use Rattle.chip_set.proofs.QuietLaws.{fewer_rest, fewer_count}
use Rattle.chip_set.proofs.chips.Chips.rest_clocks.Goals as goal

pub returns-clause-rest : goal.returns-clause-rest
returns-clause-rest c some =
    let n : ℕ = c.timers_rest.result in
    let sprites : n ≤ c.quiet-sprites.result = c.timers_rest.ensures.most in
    let copper : n ≤ c.copper_rest-copper.result = omega (arith, sprites, c.quiet-sprites.ensures.most) in
    let waits : n ≤ c.processor_rest-waits.result = omega (arith, copper, c.copper_rest-copper.ensures.most) in
    record {
      sprites = λ k below. subst (λ (now : WorkingChips). ReadsNothing (later_beam k c.args.beam.now) now.registers now.kinds) c.self.view_is
          (c.quiet-sprites.ensures.quiet k (omega (arith, below, sprites)));
      copper = λ k below. c.copper_rest-copper.ensures.idle k (omega (arith, below, copper));
      blit = c.has_blitter_rest.ensures c.if-not-has_blitter_rest.false;
      processor = fewer_rest c.args.self.now.irq n c.processor_rest-waits.result c.args.self.now.processor waits c.processor_rest-waits.ensures.rests;
      counts = fewer_count n c.processor_rest-waits.result c.args.self.now.processor waits c.processor_rest-waits.ensures.counts;
      lines = c.asks_nothing_new.ensures c.if-not-asks_nothing_new.false;
      timers_a = c.timers_rest.ensures.timers_a;
      timers_b = c.timers_rest.ensures.timers_b;
    }
