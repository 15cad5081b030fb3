-- The registers of the test are high words of pointers: looked up in the register table.
use Rattle.std.proofs.Common.{refl}
use Rattle.serial_model.specs.RegisterTable as table
use Rattle.chip_tests.proofs.register_file.pointers.Goals as goal

pub pointer-requires : goal.pointer-requires
unfolding table.row_at table.rows
pointer-requires g c = rw c.masked.ensures.offset refl

pub pointer-requires-2 : goal.pointer-requires-2
unfolding table.row_at table.rows
pointer-requires-2 g c = rw c.masked-2.ensures.offset refl

pub set_pointer-requires : goal.set_pointer-requires
unfolding table.row_at table.rows
set_pointer-requires g c = rw c.masked-3.ensures.offset refl

pub pointer-requires-3 : goal.pointer-requires-3
unfolding table.row_at table.rows
pointer-requires-3 g c = rw c.masked-6.ensures.offset refl

pub pointer-requires-4 : goal.pointer-requires-4
unfolding table.row_at table.rows
pointer-requires-4 g c = rw c.masked-7.ensures.offset refl
