use Rattle.std.proofs.Common.{◌≡◌, ◌+◌, min, arith, ap, subst, sym, ◌∙◌}
use Rattle.cpu_bus.specs.declared.BusCpu.{BusCpu}
use Rattle.cpu_bus.specs.Beside.{turn_beside_of}
use Rattle.chip_set.specs.Beside.{WaitsBeside}
use Rattle.chip_set.specs.Chips.{WorkingChips}
use Rattle.chip_set.proofs.BesideLaws.{waits_beside, asks_beside}
use Rattle.chip_set.proofs.chips.Chips.wait_beside.Goals as goal
use Rattle.chip_set.proofs.chips.Chips.wait_beside.Goals.{then-self-lt3, else-self-lt3}

pub returns-in-Waits-clause-waits : goal.returns-in-Waits-clause-waits
returns-in-Waits-clause-waits c only =
    let turn = ap (λ (x : WorkingChips). turn_beside_of x.processor) (sym c.self.view_is) ∙ sym c.turn_beside.ensures ∙ c.in-Waits.is in
    subst (λ (x : WorkingChips). WaitsBeside c.args.self.now (record x { missed = 0; processor = c.wait.new.self })) (sym c.self.view_is)
    (subst (λ (p : BusCpu). WaitsBeside c.args.self.now (record c.args.self.now { missed = 0; processor = p }))
    (ap (λ (x : WorkingChips). record x.processor { spent = c.in-Waits.spent }) (sym c.self.view_is) ∙ sym c.wait.ensures.kept)
    (waits_beside c.in-Waits.spent c.args.self.now turn))

pub returns-after-self-lt3-clause-waits : goal.returns-after-self-lt3-clause-waits
returns-after-self-lt3-clause-waits c only =
    let turn = ap (λ (x : WorkingChips). turn_beside_of x.processor) (sym c.self.view_is) ∙ sym c.turn_beside.ensures ∙ c.in-Asks.is in
    let missed = c.if-self-lt3.self in
    let same = ap (λ (x : WorkingChips). x.missed) c.self.view_is in
    let counted : missed ≡ min 3 (c.args.self.now.missed + 1) =
    elim c.if-self-lt3.branch [
      | then-self-lt3 w ↦ omega (arith, same, w.if-self-lt3.true, w.self-is)
      | else-self-lt3 w ↦ omega (arith, same, w.if-self-lt3.false, w.self-is)
    ] in
    subst (λ (x : WorkingChips). WaitsBeside c.args.self.now (record x { missed = missed; processor = c.wait-in-Asks.new.self })) (sym c.self.view_is)
    (subst (λ (p : BusCpu). WaitsBeside c.args.self.now (record c.args.self.now { missed = missed; processor = p }))
    (ap (λ (x : WorkingChips). record x.processor { spent = 1 }) (sym c.self.view_is) ∙ sym c.wait-in-Asks.ensures.kept)
    (asks_beside missed c.args.self.now turn counted))
