use Rattle.std.proofs.Common.{◌≡◌, ◌<◌, ◌∙◌, take, sym, ap, subst, arith}
use Rattle.std.specs.Option.{option_copied}
use Rattle.std.proofs.lemmas.Bool.Decides.{nat_tests}
use Rattle.ocs_rewind.specs.Ring.{RingOf, up_to}
use Rattle.ocs_rewind.proofs.RingLaws.{front_ends, front_whole}
use Rattle.ocs_rewind.proofs.ring.Ring.count_up_to.Goals as goal

-- src/ring.rt:86:5
pub returns-then-gt-clause-front : goal.returns-then-gt-clause-front
returns-then-gt-clause-front g c =
    let above : c.args.c.0 < c.in-Some.entry.now.at.0 = grind (arith, nat_tests, c.gt.ensures, c.if-gt.true) in
    let P : RingOf g.row.T.Denot → Type 0 = λ ring. take c.loop-entry.count ring.entries ≡ up_to c.args.c.0 ring.entries in
    subst P c.self.view_is
    (front_ends c.args.c.0 c.loop-entry.count c.self.inside.entries.items c.in-Some.entry.now c.self.invariant.rising c.loop-entry.invariant.below
    (sym c.get.ensures ∙ ap option_copied c.in-Some.is) above)

-- src/ring.rt:86:5
pub returns-in_default-clause-front : goal.returns-in_default-clause-front
returns-in_default-clause-front g c =
    let P : RingOf g.row.T.Denot → Type 0 = λ ring. take c.loop-entry.count ring.entries ≡ up_to c.args.c.0 ring.entries in
    subst P c.self.view_is
    (front_whole c.args.c.0 c.loop-entry.count c.self.inside.entries.items c.loop-entry.invariant.below
    (sym c.get.ensures ∙ ap option_copied c.in_default.is))
