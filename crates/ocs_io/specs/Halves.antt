-- The part of a piece that a failing call keeps.
use Rattle.std.specs.Prelude.{ℕ, ◌/◌, List, length, take}

-- the first half of a piece, rounded down
abbrev pub half : List ℕ → List ℕ
half piece = take (length piece / 2) piece
