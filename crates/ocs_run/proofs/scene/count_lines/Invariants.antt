use Rattle.std.proofs.Common.{◌≡◌, ◌≤◌, take}
use Rattle.ocs_run.specs.SceneSummary.{line_count}
use Rattle.ocs_run.proofs.scene.count_lines.Given as goal

abbrev pub invariant-loop-byte : goal.invariant-loop-byte
invariant-loop-byte l = record {
  lines : l.lines ≡ line_count (take l.byte-index l.text);
  most : l.lines ≤ l.byte-index;
}
