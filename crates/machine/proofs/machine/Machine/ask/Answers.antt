use Rattle.std.proofs.Common.{refl}
use Rattle.machine.specs.Machine.{machine_over}
use Rattle.machine.proofs.AccessLaws.{asks_of, HasAskedOf-by}
use Rattle.machine.proofs.machine.Machine.ask.Goals as goal

pub returns-clause-ask : goal.returns-clause-ask
returns-clause-ask g c =
    asks_of (machine_over g.S.Side.seen c.args.self.now) _ c.dmacon-dmacon.result c.ask-wish.result c.dmacon-dmacon.ensures c.ask-wish.ensures.ask
    c.ask.ensures.ask

pub returns-clause-chips : goal.returns-clause-chips
returns-clause-chips g c =
    HasAskedOf-by (machine_over g.S.Side.seen c.args.self.now) _ c.dmacon-dmacon.result c.ask-wish.result c.dmacon-dmacon.ensures
    c.ask-wish.ensures.ask c.ask-wish.ensures.time refl c.ask.ensures.chips
