use Rattle.std.proofs.Common.{refl}
use Rattle.machine.specs.Machine.{machine_over}
use Rattle.machine.proofs.AskedLaws.{asks_alone}
use Rattle.machine.proofs.machine.Machine.ask_in_time.Goals as goal

pub returns-clause-asks : goal.returns-clause-asks
returns-clause-asks g c =
    asks_alone (machine_over g.S.Side.seen c.args.self.now) _ c.count_timers.new.self _
    (c.is_nothing.ensures c.if-not-is_nothing.false) c.count_timers.ensures.chips c.early_ask.ensures.ask c.early_ask.ensures.chips refl
