-- A text's version says the script that is read of it.
use Rattle.std.specs.Prelude.{ℕ, ◌≡◌, true, List, [], ◌∷◌, Option, Some, None}
use Rattle.ocs_base.specs.Script.{ScriptValue}
use Rattle.script_read.specs.Grammar.{version_in}
use Rattle.script_read.specs.Versions.{says}
use Rattle.script_read.specs.declared.version.Version.{Version}

abbrev pub IsSaidIn : Option Version → ScriptValue → Type 0
IsSaidIn None script = ⊥
IsSaidIn (Some version) script = says version script.chip script.system ≡ true

-- in the version that the first of the lines names
abbrev pub IsSaid : List (List ℕ) → ScriptValue → Type 0
IsSaid [] script = ⊥
IsSaid (line ∷ lines) script = IsSaidIn (version_in line) script
