-- The lines that are said of clocks that were gone to.
use Rattle.std.specs.Prelude.{◌≡◌, ℕ, if◌then◌else◌, List, ◌++◌, codes, decimal, map}
use Rattle.std.specs.List.{flat_map}
use Rattle.ocs_base.specs.Script.{ScriptValue}
use Rattle.ocs_base.specs.declared.beam.Beam.{Beam}
use Rattle.ocs_io.specs.Numbers.{hex_text}
use Rattle.rewind_loop.specs.Places.{first_place, due_in, arrivals}
use Rattle.rewind_loop.specs.Told.{told_of}
use Rattle.rewind_loop.specs.declared.arrived.Arrived.{Arrived}
use Rattle.serial_model.specs.Serial.{state_over, IsEndOver}
use Rattle.serial_model.specs.Side.{no_side}

-- a number, and a word of four hexadecimal digits, before what follows it in the line
abbrev pub number_before : ℕ → List ℕ
number_before number = decimal number ++ codes " "

abbrev pub word_before : ℕ → List ℕ
word_before word = hex_text 4 word ++ codes " "

-- a place of the beam: the frame, the line, the clock of the line, and 1 where the field is a long one, else 0
abbrev pub place_text : Beam → List ℕ
place_text b =
    number_before b.frame ++ number_before b.v ++ number_before b.h ++ number_before (if b.lof then 1 else 0)

-- The line of a clock: the clock, its place, DMACON, COLOR00, the sum of the memory's words, and the clock from which it was reached
unfoldable pub line_of : Arrived → List ℕ
line_of a =
    number_before a.at ++ place_text a.beam ++ word_before a.dmacon ++ word_before a.colour ++ number_before a.sum
    ++ decimal a.from ++ codes "\n"

-- The lines of clocks that are gone to one after another in the run of a script over an image, whose last state is at the clock `end`:
-- each is of the run's state at that clock or at its last, from whatever it was reached
abbrev pub rewind_text : List ℕ → ScriptValue → ℕ → ℕ → List ℕ → ℕ → List ℕ
rewind_text image script every keep clocks end =
    let states = state_over no_side image script in
    flat_map line_of (map (told_of states) (arrivals (due_in states every) keep end clocks first_place))

-- the text is these lines
pub record AreLines (image : List ℕ) (script : ScriptValue) (every keep : ℕ) (clocks text : List ℕ) : Type 0 where
  pub end : ℕ
  pub ends : IsEndOver no_side image script end
  pub is : text ≡ rewind_text image script every keep clocks end
