use Rattle.std.proofs.Common.{arith, ap, ◌-◌, ◌/◌, slice_set}
use Rattle.painter.proofs.Registers.{latch_set, load_set}
use Rattle.painter.proofs.painter.Painter.set_at.Goals as goal

pub returns-then-offset-le282 : goal.returns-then-offset-le282
returns-then-offset-le282 c p is =
    rw (latch_set c.args.h c.args.offset c.args.word p (omega arith) (omega arith))
    (record {
      palette = is.palette;
      con0 = is.con0;
      con1 = is.con1;
      con2 = is.con2;
      diwstrt = is.diwstrt;
      diwstop = is.diwstop;
      clxcon = is.clxcon;
      latches = ap (λ l. slice_set l ((c.args.offset - 272) / 2) c.args.word) is.latches;
      pos = is.pos;
      ctl = is.ctl;
      words_a = is.words_a;
      words_b = is.words_b;
      armed = is.armed;
      runs = is.runs;
      line = is.line;
      held = is.held;
    })

pub returns-then-offset-eq272 : goal.returns-then-offset-eq272
returns-then-offset-eq272 c p is = rw (load_set c.args.h c.args.offset c.args.word p c.if-offset-eq272.true) (c.load.ensures p is)
