use Rattle.std.proofs.Common.{sym, ◌∙◌, ap}
use Rattle.m68k_decode.specs.Walk.{next}
use Rattle.serial_model.specs.declared.bus.ProcessorAsk.TheVariants as P
use Rattle.serial_model.specs.declared.processor.Wait.TheVariants as W
use Rattle.cpu_bus.proofs.BusLaws.{word_waits, word_rests}
use Rattle.cpu_bus.proofs.target.look_for_word.Goals as goal

pub returns-then-low-lt-SMALL_CHIP_BYTES-clause-waits : goal.returns-then-low-lt-SMALL_CHIP_BYTES-clause-waits
returns-then-low-lt-SMALL_CHIP_BYTES-clause-waits c r u ws s is =
    ap (λ at. W.Slot (P.Read at)) c.sized.ensures
    ∙ sym (word_waits c.args.chip (next r u ws) c.in-Some.at c.bus_address-low.result (sym c.in-Some.is ∙ c.word_read.ensures r u ws s)
    c.bus_address-low.ensures c.if-low-lt-SMALL_CHIP_BYTES.true)

pub returns-then-low-lt-SMALL_CHIP_BYTES-clause-settles : goal.returns-then-low-lt-SMALL_CHIP_BYTES-clause-settles
returns-then-low-lt-SMALL_CHIP_BYTES-clause-settles c r u ws level s is =
    word_rests r u ws c.in-Some.at level (sym c.in-Some.is ∙ c.word_read.ensures r u ws s)
