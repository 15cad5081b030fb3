use Rattle.std.proofs.Common.{ℕ, ◌+◌, arith, ◌∙◌, ap, subst, sym}
use Rattle.bitplane_dma.specs.Rules.{rules_of}
use Rattle.chip_set.specs.Bus.{IsUnitKept}
use Rattle.chip_set.specs.Chips.{WorkingChips}
use Rattle.chip_set.proofs.BusLaws.{unit_later}
use Rattle.chip_set.proofs.chips.Chips.fetch_plane.Goals as goal

pub fetch_in_unit-requires-clause-rules : goal.fetch_in_unit-requires-clause-rules
fetch_in_unit-requires-clause-rules c =
    let v : ℕ = c.args.beam.now.v in
    (v, c.requires.rules ∙ ap (λ (now : WorkingChips). rules_of v now.registers) (sym c.kept_unit.ensures.last))

pub returns-clause-unit : goal.returns-clause-unit
returns-clause-unit c =
    let h : ℕ = c.args.beam.now.h in
    subst (λ (now : WorkingChips). IsUnitKept c.kept_unit.new.unit (h + 1) now.last) (sym c.fetch_in_unit.ensures.moved)
    (unit_later c.kept_unit.new.unit h (h + 1) c.kept_unit.new.self.last (omega arith) c.kept_unit.ensures.unit)

-- where no unit runs
pub returns-in_err-start-clause-unit : goal.returns-in_err-start-clause-unit
returns-in_err-start-clause-unit c =
    let h : ℕ = c.args.beam.now.h in
    unit_later c.kept_unit.new.unit h (h + 1) c.kept_unit.new.self.last (omega arith) c.kept_unit.ensures.unit
