-- The words of an event: numbers, registers, acts and times.
use Rattle.std.specs.Prelude.{ℕ, false, ◌%◌, ◌==◌, ◌&&◌, nat_lt, if◌then◌else◌, List, [], ◌∷◌, length, codes, bytes_eq, Option, Some, None}
use Rattle.ocs_base.specs.Register.{register_of}
use Rattle.ocs_base.specs.declared.reg.Reg.{Reg}
use Rattle.ocs_base.specs.declared.script.Act.{Act}
use Rattle.ocs_base.specs.declared.script.Act.TheVariants.{Poke, Peek, Joy, Fire, Key}
use Rattle.ocs_base.specs.declared.script.At.{At}
use Rattle.ocs_base.specs.declared.system.System.{System}
use Rattle.ocs_base.specs.Systems.{lines}
use Rattle.ocs_io.specs.Numbers.{dec_of, hex_of}
use Rattle.script_read.specs.Split.{words_of}

abbrev pub kept_below : ℕ → Option ℕ → Option ℕ
kept_below limit None = None
kept_below limit (Some n) = if nat_lt n limit then Some n else None

-- a decimal number below the limit
unfoldable pub below : ℕ → List ℕ → Option ℕ
below limit text = kept_below limit (dec_of text)

-- a number of so many lower-case hexadecimal digits
unfoldable pub hex_number : ℕ → List ℕ → Option ℕ
hex_number digits text = if length text == digits then hex_of text else None

abbrev pub kept_register : Option ℕ → Option Reg
kept_register None = None
kept_register (Some n) = if (n % 2 == 0) && nat_lt n 512 then Some (register_of n) else None

-- a register: the even offset, at most 1fe, in three digits
unfoldable pub register_named : List ℕ → Option Reg
register_named text = kept_register (hex_number 3 text)

abbrev pub poke_with : Option Reg → Option ℕ → Option Act
poke_with None word = None
poke_with (Some reg) None = None
poke_with (Some reg) (Some word) = Some (Poke reg word)

abbrev pub peek_with : Option Reg → Option Act
peek_with None = None
peek_with (Some reg) = Some (Peek reg)

abbrev pub joy_with : Option ℕ → Option ℕ → Option Act
joy_with None word = None
joy_with (Some port) None = None
joy_with (Some port) (Some word) = Some (Joy port word)

abbrev pub fire_with : Option ℕ → Option ℕ → Option Act
fire_with None down = None
fire_with (Some port) None = None
fire_with (Some port) (Some down) = Some (Fire port (down == 1))

abbrev pub key_with : Option ℕ → Option Act
key_with None = None
key_with (Some code) = Some (Key code)

-- the acts by their words: `poke RRR DDDD`, `peek RRR`, `joy P DDDD`, `fire P B` and `key HH`
unfoldable pub poke_of : List (List ℕ) → Option Act
poke_of (reg ∷ word ∷ []) = poke_with (register_named reg) (hex_number 4 word)
poke_of words = None

unfoldable pub peek_of : List (List ℕ) → Option Act
peek_of (reg ∷ []) = peek_with (register_named reg)
peek_of words = None

unfoldable pub joy_of : List (List ℕ) → Option Act
joy_of (port ∷ word ∷ []) = joy_with (below 2 port) (hex_number 4 word)
joy_of words = None

unfoldable pub fire_of : List (List ℕ) → Option Act
fire_of (port ∷ down ∷ []) = fire_with (below 2 port) (below 2 down)
fire_of words = None

unfoldable pub key_of : List (List ℕ) → Option Act
key_of (code ∷ []) = key_with (hex_number 2 code)
key_of words = None

unfoldable pub act_of : List ℕ → List (List ℕ) → Option Act
act_of verb words =
    if bytes_eq verb (codes "poke") then poke_of words
    else (if bytes_eq verb (codes "peek") then peek_of words
    else (if bytes_eq verb (codes "joy") then joy_of words
    else (if bytes_eq verb (codes "fire") then fire_of words
    else (if bytes_eq verb (codes "key") then key_of words else None))))

abbrev pub timed : Option ℕ → Option ℕ → Option ℕ → Option Act → Option At
timed None v h act = None
timed (Some frame) None h act = None
timed (Some frame) (Some v) None act = None
timed (Some frame) (Some v) (Some h) None = None
timed (Some frame) (Some v) (Some h) (Some act) = Some (record { frame = frame; v = v; h = h; act = act })

-- an event of a run of so many frames: `at F V H` and an act, in a line that each field of the system has
unfoldable pub event_in : System → ℕ → List (List ℕ) → Option At
event_in system frames (at ∷ frame ∷ v ∷ h ∷ verb ∷ words) =
    if bytes_eq at (codes "at") then timed (below frames frame) (below (lines system false) v) (below 227 h) (act_of verb words) else None
event_in system frames words = None

unfoldable pub event_of : System → ℕ → List ℕ → Option At
event_of system frames line = event_in system frames (words_of line)
