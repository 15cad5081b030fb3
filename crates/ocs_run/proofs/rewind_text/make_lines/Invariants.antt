use Rattle.std.proofs.Common.{◌≡◌, take}
use Rattle.std.specs.List.{flat_map}
use Rattle.ocs_run.specs.RewindText.{line_of}
use Rattle.ocs_run.proofs.rewind_text.make_lines.Given as goal

abbrev pub invariant-loop-arrived : goal.invariant-loop-arrived
invariant-loop-arrived l = l.text.items ≡ flat_map line_of (take l.arrived-index l.told)
