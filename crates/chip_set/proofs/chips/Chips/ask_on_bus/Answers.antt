use Rattle.std.proofs.Common.{Some}
use Rattle.chip_set.proofs.BusLaws.{cias_beside, HasFetchedBeside, fetched_beside}
use Rattle.chip_set.proofs.chips.Chips.ask_on_bus.Goals as goal

fetches : (c : goal.After-fetch_plane) → HasFetchedBeside (Some c.args.rules.now) c.args.beam.now c.args.self.now c.fetch_plane.new.self
    c.fetch_plane.result
fetches c =
    fetched_beside c.args.rules.now c.args.beam.now c.args.self.now c.fetch_plane.new.self c.fetch_plane.result c.requires.leaves.0
    c.fetch_plane.ensures.ask c.fetch_plane.ensures.moved

pub returns-clause-ask : goal.returns-clause-ask
returns-clause-ask c = (fetches c).asks.ask

pub returns-clause-chips : goal.returns-clause-chips
returns-clause-chips c = (fetches c).asks.chips

pub returns-clause-able : goal.returns-clause-able
returns-clause-able c = (fetches c).asks.able

pub returns-clause-wish : goal.returns-clause-wish
returns-clause-wish c = (fetches c).asks.wish

pub returns-clause-leaves : goal.returns-clause-leaves
returns-clause-leaves c = (fetches c).leaves

pub returns-clause-kept : goal.returns-clause-kept
returns-clause-kept c = (fetches c).keeps

pub returns-clause-cias : goal.returns-clause-cias
returns-clause-cias c = cias_beside c.args.beam.now c.args.self.now c.fetch_plane.new.self c.fetch_plane.ensures.moved
