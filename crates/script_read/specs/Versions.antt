-- The versions of the script: which lines their heads have, and which of them says a script.
use Rattle.std.specs.Prelude.{ℕ, ◌+◌, Bool, true, false, if◌then◌else◌, List, [], ◌∷◌, length}
use Rattle.ocs_base.specs.Script.{ScriptValue}
use Rattle.ocs_base.specs.declared.chip_size.ChipSize.{ChipSize}
use Rattle.ocs_base.specs.declared.chip_size.ChipSize.TheVariants.{Kib512, Mib1}
use Rattle.ocs_base.specs.declared.system.System.{System}
use Rattle.ocs_base.specs.declared.system.System.TheVariants.{Pal, Ntsc}
use Rattle.script_read.specs.declared.fault.BadKind.{BadKind}
use Rattle.script_read.specs.declared.fault.BadKind.TheVariants.{Cpu, Frames, Chip, System as BadSystem}
use Rattle.script_read.specs.declared.version.Version.{Version}
use Rattle.script_read.specs.declared.version.Version.TheVariants.{One, Two, Three}
use Rattle.script_read.specs.declared.version.Head.{Head}

-- a line of a head after the one that names the version: `cpu`, `frames`, `chip` or `system`
pub data HeadLine : Type 0 where
  CpuLine : HeadLine
  FramesLine : HeadLine
  ChipLine : HeadLine
  SystemLine : HeadLine

-- what is said where it is bad
abbrev pub kind_of : HeadLine → BadKind
kind_of CpuLine = Cpu
kind_of FramesLine = Frames
kind_of ChipLine = Chip
kind_of SystemLine = BadSystem

-- the lines of a version's head after its first: each version has two, and a later one has more
abbrev pub later_lines : Version → List HeadLine
later_lines One = []
later_lines Two = ChipLine ∷ []
later_lines Three = ChipLine ∷ SystemLine ∷ []

abbrev pub head_lines : Version → List HeadLine
head_lines version = CpuLine ∷ FramesLine ∷ later_lines version

-- how many lines a version's head has
abbrev pub head_size : Version → ℕ
head_size version = 1 + length (head_lines version)

-- whether a script for this chip memory and system can be said in the version: without a line that names the chip memory it is
-- for 512 KiB, and without one that names the system it is for PAL
abbrev pub says : Version → ChipSize → System → Bool
says One Kib512 Pal = true
says One Kib512 Ntsc = false
says One Mib1 system = false
says Two chip Pal = true
says Two chip Ntsc = false
says Three chip system = true

-- the lowest version that says it
abbrev pub lowest : ChipSize → System → Version
lowest chip system = if says One chip system then One else (if says Two chip system then Two else Three)

-- the script before its head was read: for 512 KiB and PAL, where no line says otherwise
abbrev pub blank : ScriptValue
blank = record { cpu = false; frames = 0; chip = Kib512; system = Pal; events = [] }

-- the script that a head begins
abbrev pub begun : Head → ScriptValue
begun head = record { cpu = head.cpu; frames = head.frames; chip = head.chip; system = head.system; events = [] }
