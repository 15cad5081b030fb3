-- A row of bytes along a line.
use Rattle.std.specs.Prelude.{◌≡◌, ℕ, ◌+◌, ◌*◌, ◌-◌, ◌&&◌, nat_le, nat_lt, if◌then◌else◌, List, slice_index}

-- bytes laid over a row: they show from their start on, and hide all of the row that was behind it
abbrev pub laid : List ℕ → ℕ → List ℕ → ℕ → ℕ
laid row start bytes x = if nat_le start x then slice_index bytes (x - start) else slice_index row x

-- a row that shows nothing from one position to another
abbrev pub cut_off : List ℕ → ℕ → ℕ → ℕ → ℕ
cut_off row from end x = if nat_le from x && nat_lt x end then 0 else slice_index row x

-- the two positions of each low-resolution column show the same
abbrev pub IsPaired : List ℕ → Type 0
IsPaired row = (column : ℕ) → slice_index row (2 * column) ≡ slice_index row (2 * column + 1)
