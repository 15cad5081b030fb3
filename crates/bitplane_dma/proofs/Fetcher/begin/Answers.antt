use Rattle.std.proofs.Common.{◌≡◌, ◌∙◌, ap, sym, subst, Some, if◌then◌else◌, true, false}
use Rattle.serial_model.specs.PlaneFetch.{begins_unit, IsLastUnit}
use Rattle.serial_model.proofs.FetchLaws.{last_unit_at-between, last_unit_at-start, last_unit_at-else}
use Rattle.bitplane_dma.proofs.Fetcher.begin.Goals as goal

pub returns-then-beam-ne0 : goal.returns-then-beam-ne0
returns-then-beam-ne0 c =
    sym (last_unit_at-between _ _ c.args.self.now c.if-beam-ne0.true (subst IsLastUnit c.self.view_is c.self.invariant))

pub returns-then-beam-eq0 : goal.returns-then-beam-eq0
returns-then-beam-eq0 c = sym (last_unit_at-start _ _ _ c.if-beam-eq0.true)

pub returns-then-begins : goal.returns-then-begins
returns-then-begins c =
    let is : begins_unit c.args.beam.now c.args.regs.now c.args.self.now ≡ true =
    ap (begins_unit c.args.beam.now c.args.regs.now) (sym c.self.view_is) ∙ sym c.begins.ensures ∙ c.if-begins.true in
    sym (last_unit_at-else _ _ c.args.self.now c.if-beam-eq0.false ∙ ap (λ begins. if begins then Some c.args.beam.now.h else c.args.self.now) is)

pub returns-else-begins : goal.returns-else-begins
returns-else-begins c =
    let is : begins_unit c.args.beam.now c.args.regs.now c.args.self.now ≡ false =
    ap (begins_unit c.args.beam.now c.args.regs.now) (sym c.self.view_is) ∙ sym c.begins.ensures ∙ c.if-begins.false in
    sym (last_unit_at-else _ _ c.args.self.now c.if-beam-eq0.false ∙ ap (λ begins. if begins then Some c.args.beam.now.h else c.args.self.now) is)
