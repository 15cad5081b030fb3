-- What the processor waits for is what it shows; it is made where it is an access to memory.
use Rattle.std.proofs.Common.{Option, Some, sym, ap, subst, ◌∙◌}
use Rattle.serial_model.specs.declared.bus.ProcessorAsk.{ProcessorAsk}
use Rattle.serial_model.specs.Bus.{processor_ask}
use Rattle.chip_set.proofs.BesideLaws.{asks_slot, asks_wish}
use Rattle.machine.specs.Ahead.{IsUnseenAtOnce, asks_for_memory}
use Rattle.machine.specs.Machine.{machine_over, reads_after}
use Rattle.machine.proofs.RefusalLaws.{on_err_held}
use Rattle.machine.proofs.machine.Machine.access_alone.Goals as goal

pub read_alone-requires-clause-asks : goal.read_alone-requires-clause-asks
read_alone-requires-clause-asks g c =
    asks_wish c.args.self.now.chips.processor c.requires.asks ∙ sym c.next_ask.ensures
    ∙ c.in-Some-Read.is ∙ ap (λ (a : ProcessorAsk). Some a) c.in-Some-Read.field-0-is

pub returns-in_ok-read_alone-in-Some-Read-clause-alone : goal.returns-in_ok-read_alone-in-Some-Read-clause-alone
returns-in_ok-read_alone-in-Some-Read-clause-alone g c =
    ap asks_for_memory (sym (sym c.next_ask.ensures ∙ c.in-Some-Read.is ∙ ap (λ (a : ProcessorAsk). Some a) c.in-Some-Read.field-0-is))

pub returns-in_ok-read_alone-in-Some-Read-clause-made : goal.returns-in_ok-read_alone-in-Some-Read-clause-made
returns-in_ok-read_alone-in-Some-Read-clause-made g c = λ made.
    subst (λ (a : Option ProcessorAsk). IsUnseenAtOnce (processor_ask a) (machine_over g.S.Side.seen c.args.self.now) c.args.out.now
    (machine_over g.S.Side.seen c.read_alone.new.self) c.read_alone.new.out)
    (sym (asks_wish c.args.self.now.chips.processor c.requires.asks ∙ sym c.next_ask.ensures
    ∙ c.in-Some-Read.is ∙ ap (λ (a : ProcessorAsk). Some a) c.in-Some-Read.field-0-is))
    c.in_ok-read_alone-in-Some-Read.ensures.made

pub returns-in_err-read_alone-in-Some-Read-clause-few : goal.returns-in_err-read_alone-in-Some-Read-clause-few
returns-in_err-read_alone-in-Some-Read-clause-few g c =
    on_err_held c.from_residual.result
    (c.read_alone.ensures.reads ∙ ap (λ (a : Option ProcessorAsk). reads_after (processor_ask a) c.args.self.now.chip.reads)
    (sym (asks_wish c.args.self.now.chips.processor c.requires.asks ∙ sym c.next_ask.ensures
    ∙ c.in-Some-Read.is ∙ ap (λ (a : ProcessorAsk). Some a) c.in-Some-Read.field-0-is)))

pub write_alone-requires-clause-asks : goal.write_alone-requires-clause-asks
write_alone-requires-clause-asks g c =
    asks_wish c.args.self.now.chips.processor c.requires.asks ∙ sym c.next_ask.ensures
    ∙ c.in-Some-Write.is ∙ ap (λ (a : ProcessorAsk). Some a) c.in-Some-Write.field-0-is

pub returns-in_ok-write_alone-in-Some-Write-clause-alone : goal.returns-in_ok-write_alone-in-Some-Write-clause-alone
returns-in_ok-write_alone-in-Some-Write-clause-alone g c =
    ap asks_for_memory (sym (sym c.next_ask.ensures ∙ c.in-Some-Write.is ∙ ap (λ (a : ProcessorAsk). Some a) c.in-Some-Write.field-0-is))

pub returns-in_ok-write_alone-in-Some-Write-clause-made : goal.returns-in_ok-write_alone-in-Some-Write-clause-made
returns-in_ok-write_alone-in-Some-Write-clause-made g c = λ made.
    subst (λ (a : Option ProcessorAsk). IsUnseenAtOnce (processor_ask a) (machine_over g.S.Side.seen c.args.self.now) c.args.out.now
    (machine_over g.S.Side.seen c.write_alone.new.self) c.write_alone.new.out)
    (sym (asks_wish c.args.self.now.chips.processor c.requires.asks ∙ sym c.next_ask.ensures
    ∙ c.in-Some-Write.is ∙ ap (λ (a : ProcessorAsk). Some a) c.in-Some-Write.field-0-is))
    c.in_ok-write_alone-in-Some-Write.ensures.made

pub returns-in_err-write_alone-in-Some-Write-clause-few : goal.returns-in_err-write_alone-in-Some-Write-clause-few
returns-in_err-write_alone-in-Some-Write-clause-few g c =
    on_err_held c.from_residual-in_err-write_alone-in-Some-Write.result
    (c.write_alone.ensures.reads ∙ ap (λ (a : Option ProcessorAsk). reads_after (processor_ask a) c.args.self.now.chip.reads)
    (sym (asks_wish c.args.self.now.chips.processor c.requires.asks ∙ sym c.next_ask.ensures
    ∙ c.in-Some-Write.is ∙ ap (λ (a : ProcessorAsk). Some a) c.in-Some-Write.field-0-is)))

pub read_alone-requires-clause-waits : goal.read_alone-requires-clause-waits
read_alone-requires-clause-waits g c = asks_slot c.args.self.now.chips.processor c.requires.asks

pub write_alone-requires-clause-waits : goal.write_alone-requires-clause-waits
write_alone-requires-clause-waits g c = asks_slot c.args.self.now.chips.processor c.requires.asks
