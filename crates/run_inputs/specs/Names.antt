-- The names and numbers in the words of a command.
use Rattle.std.specs.Prelude.{ℕ, Bool, true, not, ◌&&◌, ◌==◌, nat_le, if◌then◌else◌, List, [], ◌∷◌, length, bytes_eq, Option, Some, None}

-- a name is not empty, and none of the others
abbrev pub is_new : List ℕ → List (List ℕ) → Bool
is_new name [] = not (length name == 0)
is_new name (other ∷ others) = not (bytes_eq name other) && is_new name others

-- names that are not empty, and no two of them one
abbrev pub are_names : List (List ℕ) → Bool
are_names [] = true
are_names (name ∷ names) = is_new name names && are_names names

-- a number in a range
abbrev pub kept_within : ℕ → ℕ → Option ℕ → Option ℕ
kept_within least most None = None
kept_within least most (Some n) = if nat_le least n && nat_le n most then Some n else None
