use Rattle.std.proofs.Common.{arith}
use Rattle.slots_run.proofs.order.read_order.Goals as goal

pub returns-in_default-clause-range : goal.returns-in_default-clause-range
returns-in_default-clause-range c = tt

pub returns-then-not-are_names-clause-range : goal.returns-then-not-are_names-clause-range
returns-then-not-are_names-clause-range c = tt

pub returns-in_default-read_frame-clause-range : goal.returns-in_default-read_frame-clause-range
returns-in_default-read_frame-clause-range c = tt

pub returns-in_default-read_frame-2-clause-range : goal.returns-in_default-read_frame-2-clause-range
returns-in_default-read_frame-2-clause-range c = tt

pub returns-then-to-from-clause-range : goal.returns-then-to-from-clause-range
returns-then-to-from-clause-range c = tt

pub returns-clause-range : goal.returns-clause-range
returns-clause-range c = omega (arith, c.if-to-from.false)
