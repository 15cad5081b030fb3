-- The lines of a text and the words of a line.
use Rattle.std.specs.Prelude.{ℕ, ◌==◌, if◌then◌else◌, List, [], ◌∷◌, length}
use Rattle.std.specs.List.{slice_split}

abbrev pub kept_before : List ℕ → List (List ℕ) → List (List ℕ) → List (List ℕ)
kept_before line [] kept = if length line == 0 then [] else line ∷ []
kept_before line (next ∷ lines) kept = line ∷ kept

-- the pieces, less the last where it is empty
unfoldable pub without_empty_last : List (List ℕ) → List (List ℕ)
without_empty_last [] = []
without_empty_last (line ∷ lines) = kept_before line lines (without_empty_last lines)

-- the lines of a text: each is ended by a line feed, which the last may lack
unfoldable pub lines_of : List ℕ → List (List ℕ)
lines_of text = without_empty_last (slice_split (λ b. b == 10) text)

-- the words of a line, parted by one space
unfoldable pub words_of : List ℕ → List (List ℕ)
words_of line = slice_split (λ b. b == 32) line
