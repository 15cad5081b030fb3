-- What a place in memory says without memory of its own.
use Rattle.std.specs.Prelude.{ℕ, ◌+◌, ◌≤◌, List, length}

-- what was said and the piece that is said now are at most 128 bytes, which stand in the place itself
abbrev pub IsShort : List ℕ → List ℕ → Type 0
IsShort said piece = length said + length piece ≤ 128
