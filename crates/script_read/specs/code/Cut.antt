-- What is cut off the front of a text.
use Rattle.std.specs.Prelude.{◌≡◌, ◌≢◌, ℕ, ◌<◌, List, [], ◌∷◌, length, Option, Some, None}
use Rattle.std.specs.Borrow.{Bor}
use Rattle.script_read.specs.Split.{lines_of, words_of}
use Rattle.script_read.specs.declared.cut.Line.{Line}
use Rattle.script_read.specs.declared.cut.TwoWords.{TwoWords}
use Rattle.script_read.specs.declared.cut.EventWords.{EventWords}

-- the words of what is left of a line, where anything is
abbrev pub words_left : Option (Bor (List ℕ)) → List (List ℕ)
words_left None = []
words_left (Some text) = words_of text.now

-- the first line and the others, or no line
abbrev pub IsNextLine : List ℕ → Option Line → Type 0
IsNextLine text None = lines_of text ≡ []
IsNextLine text (Some line) = (lines_of text ≡ line.text.now ∷ lines_of line.rest.now) × (length line.rest.now < length text)

-- all of the words where they are two, and where they are one
abbrev pub AreTwo : List (List ℕ) → Option TwoWords → Type 0
AreTwo words None = length words ≢ 2
AreTwo words (Some two) = words ≡ two.first.now ∷ two.second.now ∷ []

abbrev pub IsOne : List (List ℕ) → Option (Bor (List ℕ)) → Type 0
IsOne words None = length words ≢ 1
IsOne words (Some word) = words ≡ word.now ∷ []

-- five words and what follows them, where there are five
abbrev pub AreEventWords : List (List ℕ) → Option EventWords → Type 0
AreEventWords words None = length words < 5
AreEventWords words (Some w) = words ≡ w.at.now ∷ w.frame.now ∷ w.v.now ∷ w.h.now ∷ w.verb.now ∷ words_left w.args
