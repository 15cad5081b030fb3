-- An address is its number of bytes and its span.
use Rattle.std.proofs.Common.{◌≡◌, ℕ, ◌%◌, ◌<◌}
use Rattle.std.proofs.Math.Nat.{ℕ_set}
use Rattle.std.proofs.Math.Bridge.{le_prop}
use mathlib.Core.HLevel.{Σ_prop_path}
use Rattle.ocs_base.specs.Sizes.{bytes_of}
use Rattle.ocs_base.specs.declared.addr.Addr.{Addr}
use Rattle.ocs_base.specs.declared.chip_size.ChipSize.{ChipSize}

valid : (p : ℕ × ChipSize) → IsProp ((p.0 % 2 ≡ 0) × (p.0 < bytes_of p.1))
valid p = hlevel (ℕ_set, le_prop)

pub same_addr : (a b : Addr) → a.value ≡ b.value → a.size ≡ b.size → a ≡ b
same_addr a b value size =
    let pairs : ◌≡◌ {A = (p : ℕ × ChipSize) × ((p.0 % 2 ≡ 0) × (p.0 < bytes_of p.1))}
    ((a.value, a.size), (a.even, a.below)) ((b.value, b.size), (b.even, b.below)) =
    Σ_prop_path valid (λ i. (value i, size i)) in
    λ i. record { value = (pairs i).0.0; size = (pairs i).0.1; even = (pairs i).1.0; below = (pairs i).1.1 }
