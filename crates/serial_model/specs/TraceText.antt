-- The text of a trace.
use Rattle.std.specs.Prelude.{ℕ, ◌+◌, ◌/◌, ◌%◌, nat_lt, if◌then◌else◌, List, [], ◌∷◌, ◌++◌, flat_map, decimal, codes}
use Rattle.ocs_base.specs.declared.beam.Beam.{Beam}
use Rattle.serial_model.specs.declared.trace.Source.{Source}
use Rattle.serial_model.specs.declared.trace.Source.TheVariants.{Copper, Processor, Script}
use Rattle.serial_model.specs.declared.trace.TraceLine.{TraceLine}
use Rattle.serial_model.specs.declared.trace.TraceLine.TheVariants.{Wrote, Peeked, Taken}

-- the lower-case character of a hexadecimal digit
abbrev pub character_of : ℕ → ℕ
character_of digit = if nat_lt digit 10 then 48 + digit else 87 + digit

-- the offset of a register: three hexadecimal digits
abbrev pub offset_text : ℕ → List ℕ
offset_text n = character_of (n / 256 % 16) ∷ character_of (n / 16 % 16) ∷ character_of (n % 16) ∷ []

-- a word: four hexadecimal digits
abbrev pub word_text : ℕ → List ℕ
word_text n =
    character_of (n / 4096 % 16) ∷ character_of (n / 256 % 16) ∷ character_of (n / 16 % 16) ∷ character_of (n % 16) ∷ []

-- the place of the beam: frame, line and clock
unfoldable pub place_text : Beam → List ℕ
place_text b = decimal b.frame ++ codes " " ++ decimal b.v ++ codes " " ++ decimal b.h

-- the letter of whoever wrote or read
abbrev pub letter_of : Source → List ℕ
letter_of Copper = codes "C"
letter_of Processor = codes "M"
letter_of Script = codes "S"

-- a line of the trace, ended by a line feed
unfoldable pub line_text : TraceLine → List ℕ
line_text (Wrote b reg word by) =
    place_text b ++ codes " W " ++ offset_text reg.offset ++ codes " " ++ word_text word ++ codes " " ++ letter_of by ++ codes "\n"
line_text (Peeked b reg word by) =
    place_text b ++ codes " R " ++ offset_text reg.offset ++ codes " " ++ word_text word ++ codes " " ++ letter_of by ++ codes "\n"
line_text (Taken b level) = place_text b ++ codes " I " ++ decimal level ++ codes "\n"

-- the trace: its lines in order
unfoldable pub trace_text : List TraceLine → List ℕ
trace_text lines = flat_map line_text lines
