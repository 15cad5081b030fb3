use Rattle.std.proofs.Common.{arith}
use Rattle.plane_rows.specs.Line.{Shows}
use Rattle.plane_rows.proofs.KeptLoads.{row_few, row_ends}
use Rattle.plane_rows.proofs.Pairs.{none_paired}
use Rattle.plane_rows.proofs.kept_loads.row_of.Goals as goal

pub invariant_of-result : goal.invariant_of-result
invariant_of-result c = record {
  few = row_few c.args.first c.bytes_of.result c.args.loads.now c.bytes_of.ensures.long c.bytes_of.ensures.bytes;
  within = omega arith;
  blank = row_ends c.bytes_of.result c.bytes_of.ensures.long;
  pairs = none_paired c.bytes_of.result;
}

pub returns : goal.returns
unfolding Shows
returns c = c.bytes_of.ensures.bytes
