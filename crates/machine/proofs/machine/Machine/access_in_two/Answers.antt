-- What the processor waits for is what is made, where it is an access to memory.
use Rattle.std.proofs.Common.{Some, sym, ap, ◌∙◌}
use Rattle.serial_model.specs.declared.bus.ProcessorAsk.{ProcessorAsk}
use Rattle.machine.specs.Ahead.{asks_for_memory}
use Rattle.machine.proofs.RefusalLaws.{on_err_held}
use Rattle.machine.proofs.machine.Machine.access_in_two.Goals as goal

pub read_in_two-requires-clause-alone : goal.read_in_two-requires-clause-alone
read_in_two-requires-clause-alone g c = c.requires.alone

pub read_in_two-requires-clause-next : goal.read_in_two-requires-clause-next
read_in_two-requires-clause-next g c = c.requires.next

pub read_in_two-requires-clause-anew : goal.read_in_two-requires-clause-anew
read_in_two-requires-clause-anew g c = c.requires.anew

pub read_in_two-requires-clause-count : goal.read_in_two-requires-clause-count
read_in_two-requires-clause-count g c = c.requires.count

pub read_in_two-requires-clause-asks : goal.read_in_two-requires-clause-asks
read_in_two-requires-clause-asks g c =
    sym c.next_ask.ensures ∙ c.in-Some-Read.is ∙ ap (λ (a : ProcessorAsk). Some a) c.in-Some-Read.field-0-is

pub returns-in_ok-read_in_two-in-Some-Read-clause-some : goal.returns-in_ok-read_in_two-in-Some-Read-clause-some
returns-in_ok-read_in_two-in-Some-Read-clause-some g c =
    ap asks_for_memory (sym (sym c.next_ask.ensures ∙ c.in-Some-Read.is ∙ ap (λ (a : ProcessorAsk). Some a) c.in-Some-Read.field-0-is))

pub returns-in_ok-read_in_two-in-Some-Read-clause-clocks : goal.returns-in_ok-read_in_two-in-Some-Read-clause-clocks
returns-in_ok-read_in_two-in-Some-Read-clause-clocks g c = λ made. c.in_ok-read_in_two-in-Some-Read.ensures.clocks

pub returns-in_ok-read_in_two-in-Some-Read-clause-anew : goal.returns-in_ok-read_in_two-in-Some-Read-clause-anew
returns-in_ok-read_in_two-in-Some-Read-clause-anew g c = λ made. c.in_ok-read_in_two-in-Some-Read.ensures.anew

pub returns-in_err-read_in_two-in-Some-Read-clause-part : goal.returns-in_err-read_in_two-in-Some-Read-clause-part
returns-in_err-read_in_two-in-Some-Read-clause-part g c =
    on_err_held c.from_residual.result c.in_err-read_in_two-in-Some-Read.ensures.part

pub write_in_two-requires-clause-alone : goal.write_in_two-requires-clause-alone
write_in_two-requires-clause-alone g c = c.requires.alone

pub write_in_two-requires-clause-next : goal.write_in_two-requires-clause-next
write_in_two-requires-clause-next g c = c.requires.next

pub write_in_two-requires-clause-anew : goal.write_in_two-requires-clause-anew
write_in_two-requires-clause-anew g c = c.requires.anew

pub write_in_two-requires-clause-time : goal.write_in_two-requires-clause-time
write_in_two-requires-clause-time g c = c.requires.time

pub write_in_two-requires-clause-count : goal.write_in_two-requires-clause-count
write_in_two-requires-clause-count g c = c.requires.count

pub write_in_two-requires-clause-asks : goal.write_in_two-requires-clause-asks
write_in_two-requires-clause-asks g c =
    sym c.next_ask.ensures ∙ c.in-Some-Write.is ∙ ap (λ (a : ProcessorAsk). Some a) c.in-Some-Write.field-0-is

pub returns-in_ok-write_in_two-in-Some-Write-clause-some : goal.returns-in_ok-write_in_two-in-Some-Write-clause-some
returns-in_ok-write_in_two-in-Some-Write-clause-some g c =
    ap asks_for_memory (sym (sym c.next_ask.ensures ∙ c.in-Some-Write.is ∙ ap (λ (a : ProcessorAsk). Some a) c.in-Some-Write.field-0-is))

pub returns-in_ok-write_in_two-in-Some-Write-clause-clocks : goal.returns-in_ok-write_in_two-in-Some-Write-clause-clocks
returns-in_ok-write_in_two-in-Some-Write-clause-clocks g c = λ made. c.in_ok-write_in_two-in-Some-Write.ensures.clocks

pub returns-in_ok-write_in_two-in-Some-Write-clause-anew : goal.returns-in_ok-write_in_two-in-Some-Write-clause-anew
returns-in_ok-write_in_two-in-Some-Write-clause-anew g c = λ made. c.in_ok-write_in_two-in-Some-Write.ensures.anew

pub returns-in_err-write_in_two-in-Some-Write-clause-part : goal.returns-in_err-write_in_two-in-Some-Write-clause-part
returns-in_err-write_in_two-in-Some-Write-clause-part g c =
    on_err_held c.from_residual-in_err-write_in_two-in-Some-Write.result c.in_err-write_in_two-in-Some-Write.ensures.part
