use Rattle.std.proofs.Common.{refl, sym, ap, ◌∙◌}
use Rattle.m68k_decode.specs.Walk.{next}
use Rattle.serial_model.specs.Processor.{stage_after, wait_of}
use Rattle.cpu_bus.proofs.BusCpu.go_on.Goals as goal

pub returns-in-Some : goal.returns-in-Some
returns-in-Some c p is =
    let gone = c.advance-begins.ensures p.regs p.under p.answers is.stands in
    let stage = stage_after c.args.word c.args.level p in
    record {
      stands = record {
        chip = is.chip;
        on = is.on;
        stands = gone.stands;
        wait =
            ap (λ chip. wait_of chip (next stage.regs stage.under stage.answers)) is.chip
            ∙ sym (c.look_further.ensures stage.regs stage.under stage.answers gone.stands);
        spent = refl;
        given = refl;
      };
      interrupt = sym c.in-Some.is ∙ gone.level;
    }

pub returns : goal.returns
returns c p is =
    let gone = c.advance-begins.ensures p.regs p.under p.answers is.stands in
    let stage = stage_after c.args.word c.args.level p in
    record {
      stands = record {
        chip = is.chip;
        on = is.on;
        stands = gone.stands;
        wait =
            ap (λ chip. wait_of chip (next stage.regs stage.under stage.answers)) is.chip
            ∙ sym (c.look_ahead.ensures stage.regs stage.under stage.answers gone.stands);
        spent = refl;
        given = refl;
      };
      interrupt = sym c.in_default.is ∙ gone.level;
    }
