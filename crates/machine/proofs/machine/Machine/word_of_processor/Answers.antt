use Rattle.std.proofs.Common.{◌≡◌, Some, sym, ap, subst, ◌∙◌}
use Rattle.serial_model.specs.declared.bus.ProcessorAsk.{ProcessorAsk}
use Rattle.serial_model.specs.Bus.{answer_processor}
use Rattle.chip_set.specs.AskLaws.{reads_clx}
use Rattle.machine.specs.Machine.{machine_over}
use Rattle.serial_model.specs.RegisterRead.{word_of_processor}
use Rattle.machine.proofs.WordLaws.{word_read}
use Rattle.machine.proofs.machine.Machine.word_of_processor.Goals as goal

pub returns-in-ReadRegister : goal.returns-in-ReadRegister
returns-in-ReadRegister g c s asked bits =
    subst (λ (ask : ProcessorAsk). Some c.peek.result ≡ word_of_processor ask (answer_processor ask s.beam s.clx s.chips s.memory))
    (sym c.in-ReadRegister.is)
    (word_read c.in-ReadRegister.reg (machine_over g.S.Side.seen c.args.self.now) c.args.clx c.peek.result s asked
    (λ read. bits (ap reads_clx c.in-ReadRegister.is ∙ read)) c.peek.ensures)
