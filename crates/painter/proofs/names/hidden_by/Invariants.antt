-- The pairs below `bits` are written.
use Rattle.std.proofs.Common.{◌≡◌, ◌<◌, ℕ, length, slice_index}
use Rattle.painter.specs.Inks.{first_hidden}
use Rattle.painter.proofs.names.hidden_by.Given as goal

abbrev pub invariant-loop-bits : goal.invariant-loop-bits
invariant-loop-bits l =
    (length l.hidden ≡ 64) × ((k : ℕ) → k < l.bits → slice_index l.hidden k ≡ first_hidden l.con0 l.con2 k)
