-- The canonical text of a script.
use Rattle.std.specs.Prelude.{ℕ, Bool, if◌then◌else◌, List, [], ◌∷◌, ◌++◌, ◌<◌, ◌^◌, flat_map, codes, decimal}
use Rattle.ocs_base.specs.Script.{ScriptValue}
use Rattle.ocs_base.specs.declared.chip_size.ChipSize.{ChipSize}
use Rattle.ocs_base.specs.declared.chip_size.ChipSize.TheVariants.{Kib512, Mib1}
use Rattle.ocs_base.specs.declared.script.Act.{Act}
use Rattle.ocs_base.specs.declared.script.Act.TheVariants.{Poke, Peek, Joy, Fire, Key}
use Rattle.ocs_base.specs.declared.script.At.{At}
use Rattle.ocs_base.specs.declared.system.System.{System}
use Rattle.ocs_base.specs.declared.system.System.TheVariants.{Pal, Ntsc}
use Rattle.ocs_io.specs.Numbers.{hex_text}
use Rattle.script_read.specs.KindName.{kind_name}
use Rattle.script_read.specs.Versions.{HeadLine, CpuLine, FramesLine, ChipLine, SystemLine, kind_of, head_lines, lowest}
use Rattle.script_read.specs.declared.version.Version.{Version}
use Rattle.script_read.specs.declared.version.Version.TheVariants.{One, Two, Three}

-- words after a first one: a space before each
unfoldable pub spaced : List (List ℕ) → List ℕ
spaced [] = []
spaced (word ∷ words) = 32 ∷ (word ++ spaced words)

-- a line of words, and the line feed that ends it
unfoldable pub line_of : List ℕ → List (List ℕ) → List ℕ
line_of first words = first ++ spaced words

unfoldable pub line_text : List ℕ → List (List ℕ) → List ℕ
line_text first words = line_of first words ++ 10 ∷ []

abbrev pub digit_of : Bool → ℕ
digit_of down = if down then 1 else 0

unfoldable pub act_words : Act → List (List ℕ)
act_words (Poke reg word) = codes "poke" ∷ hex_text 3 reg.offset ∷ hex_text 4 word ∷ []
act_words (Peek reg) = codes "peek" ∷ hex_text 3 reg.offset ∷ []
act_words (Joy port word) = codes "joy" ∷ decimal port ∷ hex_text 4 word ∷ []
act_words (Fire port down) = codes "fire" ∷ decimal port ∷ decimal (digit_of down) ∷ []
act_words (Key code) = codes "key" ∷ hex_text 2 code ∷ []

abbrev pub time_words : At → List (List ℕ)
time_words at = decimal at.frame ∷ decimal at.v ∷ decimal at.h ∷ act_words at.act

unfoldable pub event_text : At → List ℕ
event_text at = line_text (codes "at") (time_words at)

abbrev pub cpu_word : Bool → List ℕ
cpu_word cpu = if cpu then codes "on" else codes "off"

abbrev pub chip_word : ChipSize → List ℕ
chip_word Kib512 = codes "512"
chip_word Mib1 = codes "1024"

abbrev pub system_word : System → List ℕ
system_word Pal = codes "pal"
system_word Ntsc = codes "ntsc"

abbrev pub version_word : Version → List ℕ
version_word One = codes "1"
version_word Two = codes "2"
version_word Three = codes "3"

-- what a line of the head says of a script
abbrev pub head_word : ScriptValue → HeadLine → List ℕ
head_word script CpuLine = cpu_word script.cpu
head_word script FramesLine = decimal script.frames
head_word script ChipLine = chip_word script.chip
head_word script SystemLine = system_word script.system

-- a line of the head begins with the name of the kind that is said where it is bad
abbrev pub head_line : ScriptValue → HeadLine → List ℕ
head_line script part = line_text (kind_name (kind_of part)) (head_word script part ∷ [])

unfoldable pub head_text : Version → ScriptValue → List ℕ
head_text version script = line_text (codes "ocs") (version_word version ∷ []) ++ flat_map (head_line script) (head_lines version)

-- the head of the lowest version that says the script, a line for each event, and the end line
unfoldable pub script_text : ScriptValue → List ℕ
script_text script = head_text (lowest script.chip script.system) script ++ (flat_map event_text script.events ++ line_text (codes "end") [])

-- the numbers of an act are of 16 and 8 bits, as the code's are
abbrev pub HasWords : Act → Type 0
HasWords (Poke reg word) = word < 2 ^ 16
HasWords (Peek reg) = Unit {0}
HasWords (Joy port word) = word < 2 ^ 16
HasWords (Fire port down) = Unit {0}
HasWords (Key code) = code < 2 ^ 8

abbrev pub AllHaveWords : List At → Type 0
AllHaveWords [] = Unit {0}
AllHaveWords (at ∷ events) = HasWords at.act × AllHaveWords events

-- what a head begins with, its second line up to the number of frames, and what follows that number
abbrev pub first_text : ChipSize → System → List ℕ
first_text Kib512 Pal = codes "ocs 1\n"
first_text Mib1 Pal = codes "ocs 2\n"
first_text chip Ntsc = codes "ocs 3\n"

abbrev pub cpu_text : Bool → List ℕ
cpu_text cpu = if cpu then codes "cpu on\nframes" else codes "cpu off\nframes"

abbrev pub last_text : ChipSize → System → List ℕ
last_text Kib512 Pal = codes "\n"
last_text Mib1 Pal = codes "\nchip 1024\n"
last_text Kib512 Ntsc = codes "\nchip 512\nsystem ntsc\n"
last_text Mib1 Ntsc = codes "\nchip 1024\nsystem ntsc\n"
