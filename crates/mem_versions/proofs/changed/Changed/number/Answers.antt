-- The page is known by its number.
use Rattle.std.proofs.Common.{rules}
use Rattle.mem_versions.proofs.ReplayLaws.{AreNumbered-more}
use Rattle.mem_versions.proofs.changed.Changed.number.Goals as goal

pub invariant_of-self-2 : goal.invariant_of-self-2
invariant_of-self-2 c =
    AreNumbered-more c.self.inside.places.items c.self.inside.numbers.items c.push.new.self.items c.args.page c.len.result c.self.invariant
    (search rules) (search rules) c.in_ok-push.ensures.items (search rules)

pub returns-clause-numbered : goal.returns-clause-numbered
returns-clause-numbered c =
    AreNumbered-more c.self.inside.places.items c.self.inside.numbers.items c.push.new.self.items c.args.page c.len.result c.self.invariant
    (search rules) (search rules) c.in_ok-push.ensures.items (search rules)
