use Rattle.std.proofs.Common.{ℕ, Option, subst, sym, ap, ◌∙◌}
use Rattle.serial_model.specs.Cias.{access_cia, answer_of_cia}
use Rattle.chip_set.specs.Chips.{IsChipsOf}
use Rattle.chip_set.proofs.chips.Chips.access_cia.Goals as goal

pub returns-in-Some-clause-chips : goal.returns-in-Some-clause-chips
returns-in-Some-clause-chips c x is =
    subst (λ (byte : Option ℕ). IsChipsOf c.write_cia.new.self (access_cia c.args.cia c.args.reg byte x)) (sym c.in-Some.is)
    (c.write_cia.ensures.chips x is)

pub returns-in-Some-clause-word : goal.returns-in-Some-clause-word
returns-in-Some-clause-word c x is =
    sym (ap (λ (byte : Option ℕ). answer_of_cia c.args.cia c.args.reg byte x) c.in-Some.is)

pub returns-in-Some-clause-kept : goal.returns-in-Some-clause-kept
returns-in-Some-clause-kept c = c.write_cia.ensures.kept

pub returns-in-None-clause-chips : goal.returns-in-None-clause-chips
returns-in-None-clause-chips c x is =
    subst (λ (byte : Option ℕ). IsChipsOf c.read_cia.new.self (access_cia c.args.cia c.args.reg byte x)) (sym c.in-None.is)
    (c.read_cia.ensures.chips x is)

pub returns-in-None-clause-word : goal.returns-in-None-clause-word
returns-in-None-clause-word c x is =
    c.read_cia.ensures.word x is ∙ sym (ap (λ (byte : Option ℕ). answer_of_cia c.args.cia c.args.reg byte x) c.in-None.is)

pub returns-in-None-clause-kept : goal.returns-in-None-clause-kept
returns-in-None-clause-kept c = c.read_cia.ensures.kept
