use Rattle.std.proofs.Common.{refl, ap}
use Rattle.machine.specs.Machine.{machine_over}
use Rattle.machine.proofs.AskedLaws.{asks_in_two}
use Rattle.machine.proofs.machine.Machine.ask_beside_side.Goals as goal

pub returns-clause-asks : goal.returns-clause-asks
returns-clause-asks g c =
    asks_in_two _ _ _ _ _ refl c.count_timers.ensures.step (ap (machine_over g.S.Side.seen) c.count_timers.ensures.same) c.ask.ensures.ask c.ask.ensures.chips
    (ap (machine_over g.S.Side.seen) c.ask.ensures.same)
