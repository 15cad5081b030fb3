use Rattle.std.proofs.Common.{sym, ◌∙◌, ap}
use Rattle.m68k_decode.specs.Walk.{next}
use Rattle.ocs_base.specs.AddressOf.{addr_at}
use Rattle.serial_model.specs.declared.bus.ProcessorAsk.TheVariants as P
use Rattle.serial_model.specs.declared.processor.Wait.TheVariants as W
use Rattle.cpu_bus.proofs.BusLaws.{write_waits, write_rests}
use Rattle.cpu_bus.proofs.target.look_for_write.Goals as goal

pub returns-then-low-lt-SMALL_CHIP_BYTES-clause-waits : goal.returns-then-low-lt-SMALL_CHIP_BYTES-clause-waits
returns-then-low-lt-SMALL_CHIP_BYTES-clause-waits c r u ws s is =
    let low = c.bus_address-low.result in
    ap (λ at. W.Slot (P.Write at c.half.result c.in-Write.word)) c.sized.ensures
    ∙ ap (λ half. W.Slot (P.Write (addr_at c.args.chip low) half c.in-Write.word)) c.half.ensures
    ∙ sym (write_waits c.args.chip (next r u ws) c.in-Write.at low c.in-Write.word c.in-Write.byte (c.in-Write.ensures.next r u ws s)
    c.bus_address-low.ensures c.if-low-lt-SMALL_CHIP_BYTES.true)

pub returns-then-low-lt-SMALL_CHIP_BYTES-clause-settles : goal.returns-then-low-lt-SMALL_CHIP_BYTES-clause-settles
returns-then-low-lt-SMALL_CHIP_BYTES-clause-settles c r u ws level s is =
    write_rests r u ws c.in-Write.at c.in-Write.word level c.in-Write.byte (c.in-Write.ensures.next r u ws s)
