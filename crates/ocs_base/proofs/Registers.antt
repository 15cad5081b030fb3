-- A register is its offset.
use Rattle.std.proofs.Common.{◌≡◌, ℕ, ◌%◌, ◌<◌}
use Rattle.std.proofs.Math.Nat.{ℕ_set}
use Rattle.std.proofs.Math.Bridge.{le_prop}
use mathlib.Core.HLevel.{Σ_prop_path}
use Rattle.ocs_base.specs.declared.reg.Reg.{Reg}

valid : (n : ℕ) → IsProp ((n % 2 ≡ 0) × (n < 512))
valid n = hlevel (ℕ_set, le_prop)

pub same_register : (a b : Reg) → a.offset ≡ b.offset → a ≡ b
same_register a b same =
    let pairs : ◌≡◌ {A = (n : ℕ) × ((n % 2 ≡ 0) × (n < 512))} (a.offset, (a.even, a.below)) (b.offset, (b.even, b.below)) = Σ_prop_path valid same in
    λ i. record { offset = (pairs i).0; even = (pairs i).1.0; below = (pairs i).1.1 }
