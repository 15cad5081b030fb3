-- The grammar of a script in its three versions, by lines, and the first fault of a text outside it.
use Rattle.std.specs.Prelude.{ℕ, ◌+◌, Bool, true, false, ◌&&◌, nat_le, nat_lt, if◌then◌else◌, List}
use Rattle.std.specs.Prelude.{[], ◌∷◌, length, codes, bytes_eq, Option, Some, None, Result, Ok, Err}
use Rattle.ocs_base.specs.Limits.{time_of}
use Rattle.ocs_base.specs.Script.{ScriptValue}
use Rattle.ocs_base.specs.declared.chip_size.ChipSize.{ChipSize}
use Rattle.ocs_base.specs.declared.chip_size.ChipSize.TheVariants.{Kib512, Mib1}
use Rattle.ocs_base.specs.declared.script.At.{At}
use Rattle.ocs_base.specs.declared.system.System.{System}
use Rattle.ocs_base.specs.declared.system.System.TheVariants.{Pal, Ntsc}
use Rattle.ocs_io.specs.Numbers.{dec_of}
use Rattle.script_read.specs.Split.{lines_of, words_of}
use Rattle.script_read.specs.Versions.{HeadLine, CpuLine, FramesLine, ChipLine, SystemLine, kind_of, head_lines, blank}
use Rattle.script_read.specs.Words.{event_of}
use Rattle.script_read.specs.declared.fault.BadKind.{BadKind}
use Rattle.script_read.specs.declared.fault.BadKind.TheVariants.{Long, Lines, Header, Event, Order, Missing, Extra}
use Rattle.script_read.specs.declared.version.Version.{Version}
use Rattle.script_read.specs.declared.version.Version.TheVariants.{One, Two, Three}

-- a script, or the first bad line and what is wrong with it
pub data Verdict : Type 0 where
  Good : ScriptValue → Verdict
  Bad : ℕ → BadKind → Verdict

abbrev pub in_order : ℕ → Option At → Result (Option At) BadKind
in_order before None = Err Event
in_order before (Some at) = if nat_lt (time_of at) before then Err Order else Ok (Some at)

-- a line after the head, by its number, where the event before it was at the time `before`: an event that
-- is no earlier, or none at `end`; no line stands past line 100,000
unfoldable pub body_line : System → ℕ → ℕ → ℕ → List ℕ → Result (Option At) BadKind
body_line system frames number before line =
    if nat_lt 100000 number then Err Lines
    else (if bytes_eq line (codes "end") then Ok None else in_order before (event_of system frames line))

-- after `end` there is nothing
abbrev pub after_end : ScriptValue → ℕ → List (List ℕ) → Verdict
after_end script number [] = Good script
after_end script number (line ∷ lines) = Bad number (if nat_lt 100000 number then Lines else Extra)

abbrev pub with_event : At → Verdict → Verdict
with_event at (Good script) = Good (record script { events = at ∷ script.events })
with_event at (Bad number kind) = Bad number kind

abbrev pub from_line : Result (Option At) BadKind → ℕ → Verdict → (At → Verdict) → Verdict
from_line (Err kind) number ended more = Bad number kind
from_line (Ok None) number ended more = ended
from_line (Ok (Some at)) number ended more = with_event at (more at)

-- the lines from the one of this number on: events and then `end`. The head is the script without them
unfoldable pub body_of : ScriptValue → ℕ → ℕ → List (List ℕ) → Verdict
body_of head number before [] = Bad number Missing
body_of head number before (line ∷ lines) =
    from_line (body_line head.system head.frames number before line) number (after_end head (number + 1) lines)
    (λ at. body_of head (number + 1) (time_of at) lines)

abbrev pub kept_frames : Option ℕ → Option ℕ
kept_frames None = None
kept_frames (Some n) = if nat_le 1 n && nat_le n 1000 then Some n else None

-- `frames N`
unfoldable pub frames_in : List (List ℕ) → Option ℕ
frames_in (name ∷ number ∷ []) = if bytes_eq name (codes "frames") then kept_frames (dec_of number) else None
frames_in words = None

-- `cpu on` or `cpu off`
unfoldable pub cpu_in : List ℕ → Option Bool
cpu_in line = if bytes_eq line (codes "cpu on") then Some true else (if bytes_eq line (codes "cpu off") then Some false else None)

-- the size of chip memory in KiB: `chip 512` or `chip 1024`
unfoldable pub chip_in : List ℕ → Option ChipSize
chip_in line = if bytes_eq line (codes "chip 512") then Some Kib512 else (if bytes_eq line (codes "chip 1024") then Some Mib1 else None)

-- `system pal` or `system ntsc`
unfoldable pub system_in : List ℕ → Option System
system_in line = if bytes_eq line (codes "system pal") then Some Pal else (if bytes_eq line (codes "system ntsc") then Some Ntsc else None)

abbrev pub with_cpu : ScriptValue → Option Bool → Option ScriptValue
with_cpu head None = None
with_cpu head (Some cpu) = Some (record head { cpu = cpu })

abbrev pub with_frames : ScriptValue → Option ℕ → Option ScriptValue
with_frames head None = None
with_frames head (Some frames) = Some (record head { frames = frames })

abbrev pub with_chip : ScriptValue → Option ChipSize → Option ScriptValue
with_chip head None = None
with_chip head (Some chip) = Some (record head { chip = chip })

abbrev pub with_system : ScriptValue → Option System → Option ScriptValue
with_system head None = None
with_system head (Some system) = Some (record head { system = system })

-- the script with what a line of its head says
abbrev pub head_with : HeadLine → ScriptValue → List ℕ → Option ScriptValue
head_with CpuLine head line = with_cpu head (cpu_in line)
head_with FramesLine head line = with_frames head (frames_in (words_of line))
head_with ChipLine head line = with_chip head (chip_in line)
head_with SystemLine head line = with_system head (system_in line)

abbrev pub from_head : Option ScriptValue → ℕ → BadKind → (ScriptValue → Verdict) → Verdict
from_head None number kind more = Bad number kind
from_head (Some head) number kind more = more head

-- the lines from the one of this number on: these of the head, and then the body
unfoldable pub head_of : List HeadLine → ℕ → ScriptValue → List (List ℕ) → Verdict
head_of [] number head lines = body_of head number 0 lines
head_of (part ∷ parts) number head [] = Bad number Missing
head_of (part ∷ parts) number head (line ∷ lines) =
    from_head (head_with part head line) number (kind_of part) (λ next. head_of parts (number + 1) next lines)

-- the first line, `ocs` and the version
unfoldable pub version_in : List ℕ → Option Version
version_in line =
    if bytes_eq line (codes "ocs 1") then Some One
    else (if bytes_eq line (codes "ocs 2") then Some Two else (if bytes_eq line (codes "ocs 3") then Some Three else None))

abbrev pub from_version : Option Version → List (List ℕ) → Verdict
from_version None lines = Bad 1 Header
from_version (Some version) lines = head_of (head_lines version) 2 blank lines

unfoldable pub from_header : List (List ℕ) → Verdict
from_header [] = Bad 1 Missing
from_header (line ∷ lines) = from_version (version_in line) lines

-- the script of a text of at most 4,194,304 bytes
unfoldable pub script_of : List ℕ → Verdict
script_of text = if nat_lt 4194304 (length text) then Bad 0 Long else from_header (lines_of text)
