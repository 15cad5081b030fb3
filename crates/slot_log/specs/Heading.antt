-- The heading of a file that has the log of slots.
use Rattle.std.specs.Prelude.{ℕ, List, ◌++◌, codes, decimal}
use Rattle.ocs_base.specs.declared.system.System.{System}
use Rattle.ocs_base.specs.declared.system.System.TheVariants.{Pal, Ntsc}

abbrev pub system_name : System → List ℕ
system_name Pal = codes "pal"
system_name Ntsc = codes "ntsc"

-- a line of text: the system, the frames, the number of bytes of chip memory, and that of bytes a record
abbrev pub heading : System → ℕ → ℕ → ℕ → List ℕ
heading system from to bytes =
    codes "ocs-slots 3 " ++ system_name system ++ codes " " ++ decimal from ++ codes " " ++ decimal to ++ codes " " ++ decimal bytes ++ codes " 10\n"
