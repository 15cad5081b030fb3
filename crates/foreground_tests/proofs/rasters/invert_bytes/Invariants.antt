-- The bytes before a place are turned over, and the others are as they were.
use Rattle.std.proofs.Common.{◌≡◌, ◌++◌, map, take, drop, bit_xor}
use Rattle.foreground_tests.proofs.rasters.invert_bytes.Given as goal

abbrev pub invariant-loop-i : goal.invariant-loop-i
invariant-loop-i l = l.bytes ≡ map (λ byte. bit_xor byte 255) (take l.i l.fn.bytes) ++ drop l.i l.fn.bytes
