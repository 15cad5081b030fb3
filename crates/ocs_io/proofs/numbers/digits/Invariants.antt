use Rattle.std.proofs.Common.{◌≡◌, ◌^◌, ◌<◌, drop}
use Rattle.std.specs.Str.Parse.{digits_value, digits_value_after}
use Rattle.ocs_io.specs.Numbers.{all_bytes, is_digit}
use Rattle.ocs_io.proofs.numbers.digits.Given as goal

abbrev pub invariant-loop-byte : goal.invariant-loop-byte
invariant-loop-byte l = record {
  fits : l.value < 2 ^ 64;
  value : digits_value_after 10 l.value (drop l.byte-index l.bytes) ≡ digits_value 10 l.bytes;
  digits : all_bytes is_digit (drop l.byte-index l.bytes) ≡ all_bytes is_digit l.bytes;
}
