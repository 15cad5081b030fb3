use Rattle.std.proofs.Common.{sym, subst}
use Rattle.ocs_rewind.specs.Ring.{RingOf, IsAbove, last_entry}
use Rattle.ocs_rewind.proofs.RingLaws.{ring-pushed}
use Rattle.ocs_rewind.proofs.ring.Ring.push.Goals as goal

-- src/ring.rt:41:5
pub invariant_of-self : goal.invariant_of-self
invariant_of-self g c =
    let P : RingOf g.row.T.Denot → Type 0 = λ ring. IsAbove c.args.at.0 (last_entry ring.entries) in
    rw c.push_back-oldest.ensures.items
    (ring-pushed c.self.inside.entries.items c.self.inside.entries.capacity _ c.self.invariant (subst P (sym c.self.view_is) c.requires))
