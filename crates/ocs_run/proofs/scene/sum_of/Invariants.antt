use Rattle.std.proofs.Common.{◌≡◌, ◌*◌, ◌≤◌, take, sum}
use Rattle.ocs_run.proofs.scene.sum_of.Given as goal

abbrev pub invariant-loop-byte : goal.invariant-loop-byte
invariant-loop-byte l = record {
  total : l.total ≡ sum (take l.byte-index l.bytes);
  most : l.total ≤ l.byte-index * 256;
}
