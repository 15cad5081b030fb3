-- What a side of the program does.
use Rattle.std.specs.Prelude.{ℕ, List, [], ◌∷◌, Option, Some, None}
use Rattle.disk_dma.specs.Disk.{disk_side}
use Rattle.paula_audio.specs.Paula.{paula_side}
use Rattle.run_side.specs.declared.side.RunSide.{RunSide}
use Rattle.run_side.specs.declared.side.RunSide.TheVariants.{Nothing, Sound, Reading}
use Rattle.serial_model.specs.Side.{SideValue, no_side}

abbrev pub side_of : RunSide → SideValue
side_of Nothing = no_side
side_of (Sound paula) = paula_side paula
side_of (Reading disk) = disk_side disk

-- a left and a right byte as a list
abbrev pub bytes_of_pair : Option (ℕ × ℕ) → List ℕ
bytes_of_pair None = []
bytes_of_pair (Some pair) = pair.0 ∷ pair.1 ∷ []
