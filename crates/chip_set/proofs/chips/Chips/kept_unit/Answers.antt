use Rattle.std.proofs.Common.{ℕ, Option, arith, ap, sym}
use Rattle.chip_set.proofs.BusLaws.{unit_goes_on}
use Rattle.chip_set.proofs.chips.Chips.kept_unit.Goals as goal

pub returns-then-beam-unit-clause-last : goal.returns-then-beam-unit-clause-last
returns-then-beam-unit-clause-last c =
    let h : ℕ = c.args.beam.now.h in
    ap (λ (last : Option ℕ). record c.args.self.now { last = last }) (sym (unit_goes_on c.args.beam.now c.args.self.now.registers
    c.args.self.now.last c.args.unit.now.start c.requires.inner (c.requires.unit h (omega arith) c.if-beam-unit.true)))
