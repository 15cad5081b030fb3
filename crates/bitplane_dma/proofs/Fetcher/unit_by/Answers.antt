use Rattle.std.proofs.Common.{◌≡◌, Option, Some, ℕ, true, arith, ◌∙◌, sym, subst}
use Rattle.serial_model.specs.PlaneFetch.{last_unit_at, is_running, IsLastUnit, IsUnitStart}
use Rattle.serial_model.proofs.FetchLaws.{last_unit_at-is}
use Rattle.bitplane_dma.specs.Rules.{begins_by, is_first}
use Rattle.bitplane_dma.proofs.Units.{last_runs, last_begun, last_stays, start_begun, runs_in_slot, begun_in_slot, first_behind_some, first_behind_none}
use Rattle.bitplane_dma.proofs.Fetcher.unit_by.Goals.{in-Some+else-slot-lt8+else-slot-eq8, in_default}
use Rattle.bitplane_dma.proofs.Fetcher.unit_by.Goals.{else-slot-eq8-via-then-slot-eq8+else-has_next, else-slot-eq8-via-else-slot-eq8}
use Rattle.bitplane_dma.proofs.Fetcher.unit_by.Goals as goal

pub returns-then-slot-lt8-clause-last : goal.returns-then-slot-lt8-clause-last
returns-then-slot-lt8-clause-last c regs same =
    let at : IsUnitStart c.in-Some.start = subst IsLastUnit c.in-Some.is c.self.invariant in
    let runs : is_running c.args.beam.now.h (Some c.in-Some.start) ≡ true =
    runs_in_slot c.args.beam.now.h c.in-Some.start (omega arith) at c.if-slot-lt8.true in
    subst (λ (last : Option ℕ). last ≡ last_unit_at c.args.beam.now regs last) (sym c.in-Some.is ∙ c.self.view_is)
    (last_runs c.args.beam.now regs (Some c.in-Some.start) c.requires.inner runs)

pub returns-then-has_next-clause-last : goal.returns-then-has_next-clause-last
returns-then-has_next-clause-last c regs same =
    let at : IsUnitStart c.in-Some.start = subst IsLastUnit c.in-Some.is c.self.invariant in
    let begins : begins_by c.args.rules.now c.args.beam.now.h (Some c.in-Some.start) ≡ true =
    begun_in_slot c.args.rules.now c.args.beam.now.h c.in-Some.start (omega arith) at c.if-slot-eq8.true
    (sym c.has_next.ensures ∙ c.if-has_next.true) in
    subst (λ (last : Option ℕ). Some c.args.beam.now.h ≡ last_unit_at c.args.beam.now regs last) (sym c.in-Some.is ∙ c.self.view_is)
    (last_begun c.args.beam.now regs c.args.rules.now (Some c.in-Some.start) c.requires.inner same begins)

pub returns-then-begins_first-clause-last : goal.returns-then-begins_first-clause-last
returns-then-begins_first-clause-last c regs same =
    let first : begins_by c.args.rules.now c.args.beam.now.h c.self.inside.last ≡ is_first c.args.beam.now.h c.args.rules.now.first =
    elim c.match-self.branch [
      | in-Some+else-slot-lt8+else-slot-eq8 w ↦
          first_behind_some c.args.rules.now c.args.beam.now.h w.in-Some.start c.self.inside.last (omega arith) c.self.invariant w.in-Some.is
          w.if-slot-lt8.false (λ is. elim w.else-slot-eq8.branch [
            | else-slot-eq8-via-then-slot-eq8+else-has_next v ↦ sym v.has_next.ensures ∙ v.if-has_next.false
            | else-slot-eq8-via-else-slot-eq8 v ↦ absurd (v.if-slot-eq8.false is)
          ])
      | in_default w ↦ first_behind_none c.args.rules.now c.args.beam.now.h c.self.inside.last w.in_default.is
    ] in
    subst (λ (last : Option ℕ). Some c.args.beam.now.h ≡ last_unit_at c.args.beam.now regs last) c.self.view_is
    (last_begun c.args.beam.now regs c.args.rules.now c.self.inside.last c.requires.inner same
    (first ∙ sym c.begins_first.ensures ∙ c.if-begins_first.true))

pub returns-then-begins_first-clause-begun : goal.returns-then-begins_first-clause-begun
returns-then-begins_first-clause-begun c =
    let last : Some c.args.beam.now.h ≡ last_unit_at c.args.beam.now c.requires.rules.0 c.args.self.now =
    returns-then-begins_first-clause-last c c.requires.rules.0 c.requires.rules.1 in
    subst IsLastUnit (sym last)
    (last_unit_at-is c.args.beam.now c.requires.rules.0 c.args.self.now (subst IsLastUnit c.self.view_is c.self.invariant))

pub invariant_of-self-then-begins_first : goal.invariant_of-self-then-begins_first
invariant_of-self-then-begins_first c =
    let first : begins_by c.args.rules.now c.args.beam.now.h c.self.inside.last ≡ is_first c.args.beam.now.h c.args.rules.now.first =
    elim c.match-self.branch [
      | in-Some+else-slot-lt8+else-slot-eq8 w ↦
          first_behind_some c.args.rules.now c.args.beam.now.h w.in-Some.start c.self.inside.last (omega arith) c.self.invariant w.in-Some.is
          w.if-slot-lt8.false (λ is. elim w.else-slot-eq8.branch [
            | else-slot-eq8-via-then-slot-eq8+else-has_next v ↦ sym v.has_next.ensures ∙ v.if-has_next.false
            | else-slot-eq8-via-else-slot-eq8 v ↦ absurd (v.if-slot-eq8.false is)
          ])
      | in_default w ↦ first_behind_none c.args.rules.now c.args.beam.now.h c.self.inside.last w.in_default.is
    ] in
    start_begun c.args.beam.now c.requires.rules.0 c.args.rules.now c.self.inside.last c.self.invariant c.requires.rules.1
    (first ∙ sym c.begins_first.ensures ∙ c.if-begins_first.true)

pub returns-clause-last : goal.returns-clause-last
returns-clause-last c regs same =
    let first : begins_by c.args.rules.now c.args.beam.now.h c.self.inside.last ≡ is_first c.args.beam.now.h c.args.rules.now.first =
    elim c.match-self.branch [
      | in-Some+else-slot-lt8+else-slot-eq8 w ↦
          first_behind_some c.args.rules.now c.args.beam.now.h w.in-Some.start c.self.inside.last (omega arith) c.self.invariant w.in-Some.is
          w.if-slot-lt8.false (λ is. elim w.else-slot-eq8.branch [
            | else-slot-eq8-via-then-slot-eq8+else-has_next v ↦ sym v.has_next.ensures ∙ v.if-has_next.false
            | else-slot-eq8-via-else-slot-eq8 v ↦ absurd (v.if-slot-eq8.false is)
          ])
      | in_default w ↦ first_behind_none c.args.rules.now c.args.beam.now.h c.self.inside.last w.in_default.is
    ] in
    subst (λ (last : Option ℕ). last ≡ last_unit_at c.args.beam.now regs last) c.self.view_is
    (last_stays c.args.beam.now regs c.args.rules.now c.self.inside.last c.requires.inner same
    (first ∙ sym c.begins_first.ensures ∙ c.if-begins_first.false))
