use Rattle.std.proofs.Common.{refl}
use Rattle.serial_model.specs.Processor.{stage_after}
use Rattle.cpu_bus.proofs.BusLaws.{goes_to}
use Rattle.cpu_bus.proofs.BusCpu.end_wait.Goals as goal

pub returns-then-answer_next_instruction : goal.returns-then-answer_next_instruction
returns-then-answer_next_instruction c p is =
    let gone = c.answer_next_instruction.ensures.answers p.regs p.under p.answers c.args.word is.stands c.if-answer_next_instruction.true in
    let stage = stage_after c.args.word c.args.level p in
    goes_to c.args.word c.args.level p _ _ stage refl is.chip is.on gone
    (c.look_ahead.ensures stage.regs stage.under stage.answers gone.stands) refl refl
