use Rattle.std.proofs.Common.{arith}
use Rattle.serial_model.proofs.SideLaws.{not_ticked, ticked_later}
use Rattle.serial_model.proofs.side.Side.skip.Goals as goal

pub loop-passed-init : goal.loop-passed-init
loop-passed-init g c = record { most = omega arith; later = not_ticked c.args.beam.now c.args.dmacon (g.Self.Side.seen c.args.self.now) }

pub loop-passed-preserved : goal.loop-passed-preserved
loop-passed-preserved g c = record {
  most = omega (arith, c.loop-passed-test.true);
  later = ticked_later c.loop-passed.passed c.args.beam.now c.args.dmacon (g.Self.Side.seen c.args.self.now) (g.Self.Side.seen c.loop-passed.self)
      (g.Self.Side.seen c.tick.new.self) c.loop-passed.invariant.later c.tick.ensures.state;
}
