-- A reader read to its end, and a piece written whole or in part.
use Rattle.std.specs.Prelude.{◌≡◌, ℕ, List, take, Option, IfSome}
use Rattle.std.specs.Io.KnownBytes.{Appends, IsAtEnd}

-- the bytes are all that a reader had left, where it tells, and it has none left now
abbrev pub GivesAll : Option (List ℕ) → Option (List ℕ) → List ℕ → Type 0
GivesAll left left_now bytes = IfSome left (λ all. bytes ≡ all) × IsAtEnd left_now

-- what a writer holds, where it tells, grew by a part of a piece from the piece's begin
abbrev pub AppendsPart : Option (List ℕ) → Option (List ℕ) → List ℕ → Type 0
AppendsPart held held_now piece = (n : ℕ) × Appends held held_now (take n piece)
