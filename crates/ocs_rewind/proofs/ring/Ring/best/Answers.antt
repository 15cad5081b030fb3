use Rattle.std.proofs.Common.{◌≡◌, ◌+◌, ◌-◌, ◌≤◌, ◌∙◌, ℕ, All, take, sym, ap, subst, arith}
use Rattle.std.specs.Option.{option_copied}
use Rattle.std.proofs.lemmas.Bool.Decides.{nat_tests}
use Rattle.ocs_rewind.specs.Ring.{RingOf, EntryOf, up_to}
use Rattle.ocs_rewind.proofs.RingLaws.{latest}
use Rattle.ocs_rewind.proofs.ring.Ring.best.Goals as goal

-- src/ring.rt:49:5
pub returns-clause-last : goal.returns-clause-last
returns-clause-last g c =
    let P : RingOf g.row.T.Denot → Type 0 =
    λ ring. All (λ (entry : EntryOf g.row.T.Denot). entry.at.0 ≤ c.in_ok-entry.entry.now.at.0) (up_to c.args.c.0 ring.entries) in
    let Q : RingOf g.row.T.Denot → Type 0 = λ ring. take c.count_up_to-count.result ring.entries ≡ up_to c.args.c.0 ring.entries in
    let some : c.count_up_to-count.result - 1 + 1 ≡ c.count_up_to-count.result = grind (arith, nat_tests, c.if-count-eq0.false) in
    let R : ℕ → Type 0 = λ n. take n c.self.inside.entries.items ≡ up_to c.args.c.0 c.self.inside.entries.items in
    subst P c.self.view_is
    (latest c.args.c.0 (c.count_up_to-count.result - 1) c.self.inside.entries.items c.in_ok-entry.entry.now c.self.invariant.rising
    (subst R (sym some) (subst Q (sym c.self.view_is) c.count_up_to-count.ensures.front))
    (sym c.get.ensures ∙ ap option_copied c.in_ok-entry.was))
