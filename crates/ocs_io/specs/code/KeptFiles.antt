-- The files that a list of named files stands for: the first of a name counts.
use Rattle.std.specs.Prelude.{List, [], ◌∷◌}
use Rattle.std.specs.FinMap.{empty, insert}
use Rattle.ocs_io.specs.Place.{Files}
use Rattle.ocs_io.specs.declared.files.File.{File}

unfoldable pub files_of : List File → Files
files_of [] = empty
files_of (file ∷ files) = insert (files_of files) file.name.items file.bytes.items
