use Rattle.std.proofs.Common.{ℕ, ◌∙◌, arith}
use Rattle.std.proofs.Math.ListN.{length-set}
use Rattle.plane_rows.specs.Line.{three_planes}
use Rattle.plane_rows.proofs.KeptLoads.{one_written}
use Rattle.plane_rows.proofs.kept_loads.bytes_of.Goals as goal

pub loop-x-preserved : goal.loop-x-preserved
loop-x-preserved c = record {
  long = length-set c.loop-x.bytes c.loop-x.x c.byte_at.result ∙ c.loop-x.invariant.long;
  written = λ k h. one_written (λ (n : ℕ). three_planes c.args.first n c.args.loads.now) c.loop-x.bytes c.loop-x.x c.byte_at.result k (omega arith)
      c.byte_at.ensures (c.loop-x.invariant.written k) h;
}
