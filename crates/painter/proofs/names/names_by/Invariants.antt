-- The names below `bits` are written.
use Rattle.std.proofs.Common.{◌≡◌, ◌<◌, ℕ, length, slice_index}
use Rattle.painter.specs.Inks.{ink_number}
use Rattle.painter.proofs.names.names_by.Given as goal

abbrev pub invariant-loop-bits : goal.invariant-loop-bits
invariant-loop-bits l =
    (length l.names ≡ 64) × ((k : ℕ) → k < l.bits → slice_index l.names k ≡ ink_number l.con0 l.con2 k)
