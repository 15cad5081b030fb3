-- Ways modulo the span of an address.
use Rattle.std.specs.Prelude.{◌≡◌, ℕ, ◌+◌, ◌%◌, ◌<◌, ℤ, pos}
use Rattle.std.specs.Int.{int_rem_euclid}
use Rattle.ocs_base.specs.Span.{span_of}
use Rattle.ocs_base.specs.Sizes.{bytes_of}
use Rattle.ocs_base.specs.declared.addr.Addr.{Addr}
use Rattle.ocs_base.specs.declared.chip_size.ChipSize.{ChipSize}

-- a way modulo the span of an address
abbrev pub within_span : Addr → ℤ → ℤ
within_span at way = int_rem_euclid way (pos (span_of at))

-- an even number of bytes below a span
pub record IsInside (size : ChipSize) (bytes : ℕ) : Type 0 where
  pub even : bytes % 2 ≡ 0
  pub below : bytes < bytes_of size

-- the number of an address of a size, its ways by a word and by a row modulo that size, and the mask of the size
pub record IsLane (size : ChipSize) (value forward over mask : ℕ) : Type 0 where
  pub even : value % 2 ≡ 0
  pub below : value < bytes_of size
  pub mask_is : mask + 1 ≡ bytes_of size
  pub forward_inside : IsInside size forward
  pub over_inside : IsInside size over
