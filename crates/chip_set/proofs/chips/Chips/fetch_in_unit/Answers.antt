use Rattle.std.proofs.Common.{◌∙◌, Some, ap, subst}
use Rattle.bitplane_dma.specs.Rules.{rules_of}
use Rattle.bitplane_dma.proofs.RuleLaws.{rules_kept}
use Rattle.serial_model.specs.PlaneFetch.{IsLastUnit}
use Rattle.serial_model.specs.Registers.{Registers}
use Rattle.chip_set.specs.Chips.{WorkingChips}
use Rattle.chip_set.proofs.FetchLaws.{one_of_six}
use Rattle.chip_set.proofs.chips.Chips.fetch_in_unit.Goals as goal

pub returns-clause-able : goal.returns-clause-able
returns-clause-able c =
    one_of_six c.args.h c.self.inside.registers (Some c.args.start) c.fetch_in_unit.result (subst IsLastUnit c.requires.unit.began c.requires.begun)
    c.fetch_in_unit.ensures.ask

pub returns-clause-same : goal.returns-clause-same
returns-clause-same c v =
    ap (λ (r : Registers). rules_of v r) c.fetch_in_unit.ensures.moved
    ∙ rules_kept v c.args.h (Some c.args.start) c.self.inside.registers (subst IsLastUnit c.requires.unit.began c.requires.begun)
    ∙ ap (λ (now : WorkingChips). rules_of v now.registers) c.self.view_is
