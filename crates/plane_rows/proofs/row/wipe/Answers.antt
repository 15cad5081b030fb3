use Rattle.std.proofs.Common.{◌∙◌, arith, refl}
use Rattle.std.proofs.Math.ListN.{length-set}
use Rattle.plane_rows.proofs.Rows.{wiped_none, wiped_more, wiped_all}
use Rattle.plane_rows.proofs.row.wipe.Goals as goal

pub loop-x-init : goal.loop-x-init
loop-x-init c = record {
  long = c.told-shown;
  wiped = λ k. wiped_none c.args.shown.now c.args.from k;
  none = λ h. refl;
}

pub loop-x-preserved : goal.loop-x-preserved
loop-x-preserved c = record {
  long = length-set c.loop-x.shown c.loop-x.x 0 ∙ c.loop-x.invariant.long;
  wiped = λ k. wiped_more c.args.shown.now c.loop-x.shown c.args.from c.loop-x.x k (omega arith) c.loop-x.auto.x (c.loop-x.invariant.wiped k);
  none = λ h. omega arith;
}

pub returns-clause-wiped : goal.returns-clause-wiped
returns-clause-wiped c =
    λ k. wiped_all c.args.shown.now c.loop-x.shown c.args.from c.loop-x.x c.args.end k c.loop-x-test.false c.loop-x.auto.x-end
    c.loop-x.invariant.none (c.loop-x.invariant.wiped k)
