use Rattle.std.proofs.Common.{arith}
use Rattle.serial_model.specs.Beam.{later_beam}
use Rattle.sprite_dma.proofs.Quiet.{quiet_between, more_quiet, more_quiet_pair, quiet_after}
use Rattle.sprite_dma.specs.Quiet.{ReadsNothing}
use Rattle.sprite_dma.proofs.SpriteDma.before_read.Goals as goal
use Rattle.sprite_dma.proofs.SpriteDma.before_read.Goals.{then-slot-eq1, else-slot-eq1}

pub loop-clocks-init : goal.loop-clocks-init
loop-clocks-init c = record {
  few = omega (arith, c.requires.early, c.before_slot-clocks.ensures.few);
  slot = c.before_slot-clocks.ensures.slot;
  first = c.before_slot-clocks.ensures.first;
  quiet = λ k below. quiet_between (later_beam k c.args.beam.now) c.args.regs.now c.args.self.now (omega (arith, c.requires.inner))
      (c.before_slot-clocks.ensures.none k below);
}

pub loop-clocks-preserved : goal.loop-clocks-preserved
loop-clocks-preserved c =
    let here : ReadsNothing (later_beam c.loop-clocks.clocks c.args.beam.now) c.args.regs.now c.args.self.now
    = c.is_idle_slot.ensures.here c.if-not-is_idle_slot.false in
    elim c.if-slot-eq1.branch [
      | then-slot-eq1 w ↦ record {
        few = omega (arith, c.if-beam-clocks-le-LAST_SLOT.true, w.if-slot-eq1.true, w.clocks-is);
        slot = omega (arith, c.loop-clocks.invariant.slot, w.clocks-is);
        first = omega (arith, c.loop-clocks.invariant.first);
        quiet = λ k below. more_quiet_pair c.loop-clocks.clocks c.args.beam.now c.args.regs.now c.args.self.now c.requires.inner
            c.loop-clocks.invariant.slot c.loop-clocks.invariant.quiet here
            (c.is_idle_slot.ensures.second c.if-not-is_idle_slot.false w.if-slot-eq1.true) k (omega (arith, below, w.clocks-is));
      }
      | else-slot-eq1 w ↦ record {
        few = omega (arith, c.if-beam-clocks-le-LAST_SLOT.true, w.clocks-is);
        slot = omega (arith, c.loop-clocks.invariant.slot, w.clocks-is);
        first = omega (arith, c.loop-clocks.invariant.first);
        quiet = λ k below. more_quiet c.loop-clocks.clocks c.args.beam.now c.args.regs.now c.args.self.now c.requires.inner
            c.loop-clocks.invariant.slot c.loop-clocks.invariant.quiet here k (omega (arith, below, w.clocks-is));
      }
    ]

pub returns-else-beam-clocks-le-LAST_SLOT-clause-quiet : goal.returns-else-beam-clocks-le-LAST_SLOT-clause-quiet
returns-else-beam-clocks-le-LAST_SLOT-clause-quiet c =
    quiet_after c.args.most c.loop-clocks.clocks c.args.beam.now c.args.regs.now c.args.self.now c.loop-clocks.invariant.quiet
    c.if-beam-clocks-le-LAST_SLOT.false
