use Rattle.std.proofs.Common.{◌≡◌, ◌+◌, ◌-◌, ◌*◌, ◌/◌, arith, ap, slice_set}
use Rattle.painter.proofs.Registers.{latch_set}
use Rattle.painter.proofs.painter.Painter.latch.Goals as goal

pub returns : goal.returns
returns c h p is =
    let place : (0x10e + 2 * c.args.plane - 272) / 2 ≡ c.args.plane - 1 = omega (arith, c.requires.least) in
    rw (latch_set h (0x10e + 2 * c.args.plane) c.args.word p (omega (arith, c.requires.least)) (omega (arith, c.requires.most)), place)
    (record {
      palette = is.palette;
      con0 = is.con0;
      con1 = is.con1;
      con2 = is.con2;
      diwstrt = is.diwstrt;
      diwstop = is.diwstop;
      clxcon = is.clxcon;
      latches = ap (λ l. slice_set l (c.args.plane - 1) c.args.word) is.latches;
      pos = is.pos;
      ctl = is.ctl;
      words_a = is.words_a;
      words_b = is.words_b;
      armed = is.armed;
      runs = is.runs;
      line = is.line;
      held = is.held;
    })
