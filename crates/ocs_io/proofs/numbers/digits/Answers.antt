use Rattle.ocs_io.proofs.NumberLaws.{read_digits, unread_digits}
use Rattle.ocs_io.proofs.numbers.digits.Goals as goal

pub returns-in_default : goal.returns-in_default
returns-in_default c =
    unread_digits c.loop-byte.value c.args.bytes.now c.loop-byte.byte-index c.loop-byte-test.true c.loop-byte.invariant.value c.loop-byte.invariant.digits
    c.in_default.ensures

pub returns : goal.returns
returns c =
    read_digits c.loop-byte.value c.args.bytes.now c.loop-byte.byte-index c.loop-byte-test.false c.loop-byte.invariant.fits c.loop-byte.invariant.value
    c.loop-byte.invariant.digits
