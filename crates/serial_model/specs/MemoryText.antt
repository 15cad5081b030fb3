-- The bytes of a memory file.
use Rattle.std.specs.Prelude.{ℕ, ◌/◌, ◌%◌, List, [], ◌∷◌, flat_map}

-- the two bytes of a word, the high byte first
abbrev pub word_bytes : ℕ → List ℕ
word_bytes word = word / 256 ∷ word % 256 ∷ []

-- the memory file: the words in order
unfoldable pub memory_text : List ℕ → List ℕ
memory_text words = flat_map word_bytes words
