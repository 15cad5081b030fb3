use Rattle.std.proofs.Common.{ℕ, ◌+◌, None, arith}
use Rattle.chip_set.proofs.BusLaws.{HasAskedOnBus, asked_without_planes, unit_later}
use Rattle.chip_set.proofs.chips.Chips.ask_without_planes.Goals as goal

alone : (c : goal.Start) → HasAskedOnBus c.args.beam.now c.args.self.now c.args.self.now None
alone c = asked_without_planes c.args.beam.now c.args.self.now c.requires.leaves

pub returns-clause-ask : goal.returns-clause-ask
returns-clause-ask c = (alone c).ask

pub returns-clause-chips : goal.returns-clause-chips
returns-clause-chips c = (alone c).chips

pub returns-clause-able : goal.returns-clause-able
returns-clause-able c = (alone c).able

pub returns-clause-wish : goal.returns-clause-wish
returns-clause-wish c = (alone c).wish

pub returns-clause-unit : goal.returns-clause-unit
returns-clause-unit c =
    let h : ℕ = c.args.beam.now.h in
    unit_later c.args.unit.now h (h + 1) c.args.self.now.last (omega arith) c.requires.unit
