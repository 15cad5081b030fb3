use Rattle.std.proofs.Common.{◌≡◌, arith}
use Rattle.serial_model.specs.PlaneFetch.{plane_pointer}
use Rattle.serial_model.specs.Registers.{pointer_at}
use Rattle.serial_model.proofs.FetchLaws.{plane_high}
use Rattle.bitplane_dma.proofs.Addresses.{pointer_as, pointer_moved}
use Rattle.bitplane_dma.proofs.fetch_word_by.Goals as goal

pub pointer_number-requires : goal.pointer_number-requires
pointer_number-requires c = plane_high _ c.args.plane c.masked-high.ensures.offset c.requires.plane.0 c.requires.plane.1

pub set_pointer-requires : goal.set_pointer-requires
set_pointer-requires c = plane_high _ c.args.plane c.masked-high.ensures.offset c.requires.plane.0 c.requires.plane.1

pub returns-clause-moved : goal.returns-clause-moved
returns-clause-moved c =
    let high : c.masked-high.result.offset ≡ plane_pointer c.args.plane = omega arith in
    let at : c.address-at.result ≡ pointer_at c.args.regs.now (plane_pointer c.args.plane) =
    pointer_as c.requires.rules.0 c.masked-high.result.offset (plane_pointer c.args.plane) c.pointer_number.result c.args.regs.now c.args.rules.now
    c.address-at.result c.requires.rules.1 high c.pointer_number.ensures c.address-at.ensures in
    pointer_moved c.requires.rules.0 c.masked-high.result.offset (plane_pointer c.args.plane) c.args.bytes c.raw.result c.args.regs.now
    c.set_pointer.new.self c.args.rules.now c.address-at.result c.address.result c.requires.rules.1 high at c.raw.ensures c.address.ensures
    c.set_pointer.ensures
