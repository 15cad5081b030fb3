use Rattle.std.proofs.Common.{◌≡◌, ◌^◌, ◌<◌, drop}
use Rattle.std.specs.Str.Parse.{digits_value, digits_value_after}
use Rattle.ocs_io.specs.Numbers.{all_bytes, is_lower_hex}
use Rattle.ocs_io.proofs.numbers.hex_digits.Given as goal

abbrev pub invariant-loop-byte : goal.invariant-loop-byte
invariant-loop-byte l = record {
  fits : l.value < 16 ^ l.byte-index;
  value : digits_value_after 16 l.value (drop l.byte-index l.bytes) ≡ digits_value 16 l.bytes;
  digits : all_bytes is_lower_hex (drop l.byte-index l.bytes) ≡ all_bytes is_lower_hex l.bytes;
}
