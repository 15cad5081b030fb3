use Rattle.std.proofs.lemmas.List.{take_rest}
use Rattle.ocs_io.proofs.WholeLaws.{written-more}
use Rattle.ocs_io.proofs.whole.write_whole.Goals as goal

pub loop-rest-preserved : goal.loop-rest-preserved
loop-rest-preserved g c =
    written-more _ _ _ _ _ _ c.in-Ok.count c.in-Ok.ensures.bound (take_rest c.loop-rest.rest.now c.in-Ok.count)
    c.loop-rest.invariant c.in-Ok.ensures.bytes
