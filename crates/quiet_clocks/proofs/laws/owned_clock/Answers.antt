use Rattle.quiet_clocks.proofs.OwnedClock.{plane_tick, copper_has, blitter_has, processor_has}
use Rattle.quiet_clocks.proofs.laws.owned_clock.Goals as goal

pub returns-clause-plane : goal.returns-clause-plane
returns-clause-plane c = plane_tick

pub returns-clause-copper : goal.returns-clause-copper
returns-clause-copper c = copper_has

pub returns-clause-blitter : goal.returns-clause-blitter
returns-clause-blitter c = blitter_has

pub returns-clause-processor : goal.returns-clause-processor
returns-clause-processor c = processor_has
