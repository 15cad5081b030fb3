-- The span of an address.
use Rattle.std.specs.Prelude.{ℕ}
use Rattle.ocs_base.specs.Sizes.{bytes_of}
use Rattle.ocs_base.specs.declared.addr.Addr.{Addr}

-- the number of bytes that an address wraps at
abbrev pub span_of : Addr → ℕ
span_of a = bytes_of a.size
