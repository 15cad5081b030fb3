-- What a reader answers for a text.
use Rattle.std.specs.Prelude.{◌≡◌, Result, Ok, Err}
use Rattle.ocs_base.specs.Script.{ScriptValue}
use Rattle.script_read.specs.Grammar.{Verdict, Good, Bad}
use Rattle.script_read.specs.declared.fault.ScriptFault.{ScriptFault}
use Rattle.script_read.specs.declared.fault.ScriptFault.TheVariants.{Bad as BadScript, OutOfMemory}

abbrev pub ReadsAs : Verdict → Result ScriptValue ScriptFault → Type 0
ReadsAs verdict (Ok script) = verdict ≡ Good script
ReadsAs verdict (Err (BadScript line kind)) = verdict ≡ Bad line kind
ReadsAs verdict (Err OutOfMemory) = Unit {0}
