use Rattle.std.proofs.Common.{◌≡◌, ◌∙◌, ap, sym, Some, if◌then◌else◌, true, false, arith}
use Rattle.serial_model.specs.PlaneFetch.{begins_unit}
use Rattle.serial_model.proofs.FetchLaws.{last_unit_at-else}
use Rattle.bitplane_dma.proofs.unit_now.Goals as goal

pub returns-then-begins : goal.returns-then-begins
returns-then-begins c =
    let is : begins_unit c.args.beam.now c.args.regs.now c.args.last ≡ true = sym c.begins.ensures ∙ c.if-begins.true in
    sym (last_unit_at-else c.args.beam.now c.args.regs.now c.args.last (grind (arith, c.requires))
    ∙ ap (λ begins. if begins then Some c.args.beam.now.h else c.args.last) is)

pub returns-else-begins : goal.returns-else-begins
returns-else-begins c =
    let is : begins_unit c.args.beam.now c.args.regs.now c.args.last ≡ false = sym c.begins.ensures ∙ c.if-begins.false in
    sym (last_unit_at-else c.args.beam.now c.args.regs.now c.args.last (grind (arith, c.requires))
    ∙ ap (λ begins. if begins then Some c.args.beam.now.h else c.args.last) is)
