use Rattle.std.proofs.Common.{arith, length}
use Rattle.ocs_io.proofs.NumberLaws.{hex_room}
use Rattle.ocs_io.proofs.numbers.hex_digits.Goals as goal

pub overflow_mul-value : goal.overflow_mul-value
overflow_mul-value c = record {
  fits = omega (
    arith,
    hex_room c.loop-byte.byte-index c.loop-byte.value 0
        (length c.args.bytes.now) c.loop-byte-test.true c.requires c.loop-byte.invariant.fits (omega arith),
  );
}

pub overflow_add-value : goal.overflow_add-value
overflow_add-value c = record {
  fits = hex_room c.loop-byte.byte-index c.loop-byte.value c.in-Some.digit
      (length c.args.bytes.now) c.loop-byte-test.true c.requires c.loop-byte.invariant.fits c.in-Some.ensures.below;
}
