use Rattle.quiet_clocks.proofs.Plan.{plan_next, plan_kept, write_keeps, fetch_keeps, sprite_keeps, plan_says, plan_span}
use Rattle.quiet_clocks.proofs.laws.plan_of_line.Goals as goal

pub returns-clause-next : goal.returns-clause-next
returns-clause-next c = plan_next

pub returns-clause-kept : goal.returns-clause-kept
returns-clause-kept c = plan_kept

pub returns-clause-write : goal.returns-clause-write
returns-clause-write c = write_keeps

pub returns-clause-fetch : goal.returns-clause-fetch
returns-clause-fetch c = fetch_keeps

pub returns-clause-says : goal.returns-clause-says
returns-clause-says c = plan_says

pub returns-clause-span : goal.returns-clause-span
returns-clause-span c = plan_span

pub returns-clause-sprite : goal.returns-clause-sprite
returns-clause-sprite c = sprite_keeps
