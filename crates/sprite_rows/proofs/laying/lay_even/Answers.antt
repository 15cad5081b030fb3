use Rattle.std.proofs.Common.{ℕ, ◌+◌, ◌∙◌, arith, refl}
use Rattle.std.proofs.Math.ListN.{length-set}
use Rattle.sprite_rows.specs.Laid.{with_even}
use Rattle.sprite_rows.proofs.LaidBytes.{laid_none, laid_more}
use Rattle.sprite_rows.proofs.laying.lay_even.Goals as goal

pub loop-k-init : goal.loop-k-init
loop-k-init c = record {
  long = c.told-row;
  bytes = λ (j : ℕ). laid_none with_even c.args.row.now c.args.x c.copy_from_slice.new.self j;
}

pub loop-k-preserved : goal.loop-k-preserved
loop-k-preserved c = record {
  long = length-set c.loop-k.row (c.args.x + c.loop-k.k) _ ∙ c.loop-k.invariant.long;
  bytes = λ (j : ℕ). laid_more with_even c.args.row.now c.loop-k.row c.copy_from_slice.new.self c.args.x c.loop-k.k _ j (omega arith)
      c.loop-k.invariant.bytes refl;
}
