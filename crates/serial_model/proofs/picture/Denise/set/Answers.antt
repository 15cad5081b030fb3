use Rattle.serial_model.proofs.Kept.{kept_same, kept_load}
use Rattle.serial_model.proofs.picture.Denise.set.Goals as goal

pub returns-then-offset-eq272 : goal.returns-then-offset-eq272
returns-then-offset-eq272 c =
    kept_load c.args.h c.args.offset c.args.word c.args.self.now c.load.new.self c.if-offset-eq272.true c.load.ensures

pub returns-else-offset-eq272 : goal.returns-else-offset-eq272
returns-else-offset-eq272 c =
    kept_same c.args.h c.args.offset c.args.word c.args.self.now c.set_plain.new.self (c.set_plain.ensures c.args.h)
