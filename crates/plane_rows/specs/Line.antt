-- The two rows of a line against its loads.
use Rattle.std.specs.Prelude.{◌≡◌, ℕ, ◌+◌, ◌*◌, ◌<◌, List, slice_index}
use Rattle.planes.specs.declared.load.Load.{Load}
use Rattle.planes.specs.PlaneBit.{plane_bit}
use Rattle.plane_rows.specs.declared.line.Line.{Line}

-- the bits of the plane p and of the next two of its parity, as bits 0, 2 and 4
unfoldable pub three_planes : ℕ → ℕ → List Load → ℕ
three_planes p x loads = plane_bit p x loads + 4 * plane_bit (p + 2) x loads + 16 * plane_bit (p + 4) x loads

-- a row shows what these planes show, at each of its positions
unfoldable pub Shows : List ℕ → ℕ → List Load → Type 0
Shows row p loads = (x : ℕ) → x < 1024 → slice_index row x ≡ three_planes p x loads

-- a line shows what the planes show of a list of loads
pub record IsLineOf (line : Line) (loads : List Load) : Type 0 where
  pub odd : Shows line.odd.shown 1 loads
  pub even : Shows line.even.shown 2 loads

-- the bits of the six planes, plane p as bit p - 1
abbrev pub row_bits : Line → ℕ → ℕ
row_bits line x = slice_index line.odd.shown x + 2 * slice_index line.even.shown x

-- from position x on the bits of each two positions are the same
abbrev pub ArePaired : Line → ℕ → Type 0
ArePaired line x = (column : ℕ) → row_bits line (x + 2 * column) ≡ row_bits line (x + 2 * column + 1)
