use Rattle.std.proofs.Common.{arith, ap, sym, ◌∙◌, ◌%◌, ◌-◌, ◌/◌, slice_set}
use Rattle.painter.specs.Inks.{InkRegisters}
use Rattle.painter.proofs.Registers.{latch_set, sprite_set, colour_set, none_before, none_set, none_between, none_after}
use Rattle.painter.proofs.painter.Painter.set_register.Goals as goal

pub returns-in-274-to-282 : goal.returns-in-274-to-282
returns-in-274-to-282 c p is =
    rw (latch_set c.args.h c.args.offset c.args.word p (omega arith) (omega arith))
    (record {
      palette = is.palette;
      con0 = is.con0;
      con1 = is.con1;
      con2 = is.con2;
      diwstrt = is.diwstrt;
      diwstop = is.diwstop;
      clxcon = is.clxcon;
      latches = ap (λ l. slice_set l ((c.args.offset - 272) / 2) c.args.word) is.latches;
      pos = is.pos;
      ctl = is.ctl;
      words_a = is.words_a;
      words_b = is.words_b;
      armed = is.armed;
      runs = is.runs;
      line = is.line;
      held = is.held;
    })

pub returns-then-offset-lt274 : goal.returns-then-offset-lt274
returns-then-offset-lt274 c p is =
    rw (none_before c.args.h c.args.offset c.args.word p (omega arith) (λ e. omega arith) (λ e. omega arith) (λ e. omega arith)
    (λ e. omega arith) (λ e. omega arith) (λ e. omega arith) (λ e. omega arith)) is

pub returns-then-offset-lt320 : goal.returns-then-offset-lt320
returns-then-offset-lt320 c p is = rw (none_set c.args.h c.args.offset c.args.word p (omega arith) (omega arith)) is

pub returns-else-offset-lt383 : goal.returns-else-offset-lt383
returns-else-offset-lt383 c p is = rw (none_between c.args.h c.args.offset c.args.word p (omega arith) (omega arith)) is

pub returns-else-offset-le446 : goal.returns-else-offset-le446
returns-else-offset-le446 c p is = rw (none_after c.args.h c.args.offset c.args.word p (omega arith)) is

pub returns-in-320-to-382 : goal.returns-in-320-to-382
returns-in-320-to-382 c p is =
    rw (sprite_set c.args.h c.args.offset c.args.word p (omega arith) (omega arith)) (c.set_sprite.ensures p is)

pub returns-then-offset-le446 : goal.returns-then-offset-le446
returns-then-offset-le446 c p is =
    rw (colour_set c.args.h c.args.offset c.args.word p (omega arith) (omega arith))
    (record {
      palette = ap (λ l. slice_set l ((c.args.offset - 384) / 2) (c.args.word % 4096)) is.palette
          ∙ sym (ap (λ (i : InkRegisters). i.palette) c.set_colour.ensures);
      con0 = is.con0 ∙ sym (ap (λ (i : InkRegisters). i.con0) c.set_colour.ensures);
      con1 = is.con1;
      con2 = is.con2 ∙ sym (ap (λ (i : InkRegisters). i.con2) c.set_colour.ensures);
      diwstrt = is.diwstrt;
      diwstop = is.diwstop;
      clxcon = is.clxcon;
      latches = is.latches;
      pos = is.pos;
      ctl = is.ctl;
      words_a = is.words_a;
      words_b = is.words_b;
      armed = is.armed;
      runs = is.runs;
      line = is.line;
      held = is.held;
    })
