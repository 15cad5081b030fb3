use Rattle.std.proofs.Common.{subst, sym, ◌∙◌}
use Rattle.chip_set.specs.Chips.{WorkingChips, IsChipsOf}
use Rattle.chip_set.proofs.BesideLaws.{over_turn, over_stands, over_runs, over_begins}
use Rattle.chip_set.proofs.chips.Chips.end_idle.Goals as goal

pub returns-clause-runs : goal.returns-clause-runs
returns-clause-runs c chips is =
    let turn = over_turn c.args.self.now chips c.requires.over is in
    let stands = subst (λ (x : WorkingChips). IsChipsOf (record x { missed = 0 }) chips) (sym c.self.view_is)
    (over_stands c.args.self.now chips c.requires.over is) in
    over_runs chips _ turn (c.go_on_or_rest.ensures.chips chips stands turn)

pub returns-clause-interrupt : goal.returns-clause-interrupt
returns-clause-interrupt c chips is =
    let turn = over_turn c.args.self.now chips c.requires.over is in
    let stands = subst (λ (x : WorkingChips). IsChipsOf (record x { missed = 0 }) chips) (sym c.self.view_is)
    (over_stands c.args.self.now chips c.requires.over is) in
    c.go_on_or_rest.ensures.interrupt chips stands turn ∙ over_begins chips turn
