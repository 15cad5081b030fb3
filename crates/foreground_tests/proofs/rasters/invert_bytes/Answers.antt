use Rattle.std.proofs.Common.{◌<◌, ℕ, length, get_or, bit_xor, arith}
use Rattle.std.proofs.lemmas.List.{get_or_default}
use Rattle.std.proofs.lemmas.List.Edits.{map_over_more}
use Rattle.foreground_tests.proofs.rasters.invert_bytes.Goals as goal

pub loop-i-preserved : goal.loop-i-preserved
loop-i-preserved c =
    let i = c.loop-i.i in
    let bytes = c.loop-i.bytes in
    let within : i < length bytes = omega (arith, c.loop-i-test.true, c.loop-i.auto.bytes) in
    map_over_more (λ (byte : ℕ). bit_xor byte 255) c.args.bytes.now bytes i (get_or bytes i 0) c.loop-i-test.true c.loop-i.invariant
    (get_or_default bytes i 0 (get_or bytes i 0) within)
