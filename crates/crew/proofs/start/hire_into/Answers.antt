use Rattle.crew.proofs.Hiring.{none_hired, one_more_hired}
use Rattle.crew.proofs.start.hire_into.Goals as goal

pub loop-made-init : goal.loop-made-init
loop-made-init g c = none_hired _ _ _ c.requires.front c.requires.empty

pub loop-made-preserved : goal.loop-made-preserved
loop-made-preserved g c =
    one_more_hired _ _ c.loop-made.front _ _ _ c.in_ok-hire.field-0 _ c.loop-made.invariant c.in_ok-hire.ensures c.in_ok-push.ensures.items
