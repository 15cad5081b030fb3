-- The names of what can be wrong.
use Rattle.std.specs.Prelude.{ℕ, List, codes}
use Rattle.script_read.specs.declared.fault.BadKind.{BadKind}
use Rattle.script_read.specs.declared.fault.BadKind.TheVariants.{Long, Lines, Header, Cpu, Frames, Chip, System, Event, Order, Missing, Extra}

abbrev pub kind_name : BadKind → List ℕ
kind_name Long = codes "long"
kind_name Lines = codes "lines"
kind_name Header = codes "header"
kind_name Cpu = codes "cpu"
kind_name Frames = codes "frames"
kind_name Chip = codes "chip"
kind_name System = codes "system"
kind_name Event = codes "event"
kind_name Order = codes "order"
kind_name Missing = codes "missing"
kind_name Extra = codes "extra"
