use Rattle.std.proofs.Common.{refl}
use Rattle.std.proofs.lemmas.Bool.{false≢true}
use Rattle.serial_model.specs.declared.processor.Turn.TheVariants.{Rests, Waits, Goes, Cia}
use Rattle.chip_set.proofs.PartLaws.{turn_is, ran_by, begun_by, has_waited, goes_by_cia, begins_by_cia, all_but_cias, all_but_both, cias_stay}
use Rattle.chip_set.proofs.chips.Chips.process_beside_cias.Goals as goal

pub returns-in-Rests-clause-chips : goal.returns-in-Rests-clause-chips
returns-in-Rests-clause-chips c x is =
    ran_by Rests c.args.self.now x (turn_is c.turn.result Rests _ _ x c.self.view_is c.turn.ensures c.in-Rests.is is) is

pub returns-in-Rests-clause-interrupt : goal.returns-in-Rests-clause-interrupt
returns-in-Rests-clause-interrupt c x is =
    begun_by Rests _ x (turn_is c.turn.result Rests _ _ x c.self.view_is c.turn.ensures c.in-Rests.is is) refl

pub returns-in-Waits-clause-chips : goal.returns-in-Waits-clause-chips
returns-in-Waits-clause-chips c x is =
    ran_by (Waits c.in-Waits.spent) _ x (turn_is c.turn.result (Waits c.in-Waits.spent) _ _ x c.self.view_is c.turn.ensures c.in-Waits.is is)
    (has_waited c.in-Waits.spent _ _ c.wait.new.self x c.self.view_is c.wait.ensures.stands is)

pub returns-in-Waits-clause-interrupt : goal.returns-in-Waits-clause-interrupt
returns-in-Waits-clause-interrupt c x is =
    begun_by (Waits c.in-Waits.spent) _ x
    (turn_is c.turn.result (Waits c.in-Waits.spent) _ _ x c.self.view_is c.turn.ensures c.in-Waits.is is) refl

pub returns-in-Goes-clause-chips : goal.returns-in-Goes-clause-chips
returns-in-Goes-clause-chips c x is =
    let turn = turn_is c.turn.result (Goes c.in-Goes.word) _ _ x c.self.view_is c.turn.ensures c.in-Goes.is is in
    ran_by (Goes c.in-Goes.word) c.go_on_or_rest.new.self x turn (c.go_on_or_rest.ensures.chips x is turn)

pub returns-in-Goes-clause-interrupt : goal.returns-in-Goes-clause-interrupt
returns-in-Goes-clause-interrupt c x is =
    let turn = turn_is c.turn.result (Goes c.in-Goes.word) _ _ x c.self.view_is c.turn.ensures c.in-Goes.is is in
    begun_by (Goes c.in-Goes.word) c.go_on_or_rest.result x turn (c.go_on_or_rest.ensures.interrupt x is turn)

pub returns-in-Goes-clause-kept : goal.returns-in-Goes-clause-kept
returns-in-Goes-clause-kept c = all_but_cias c.args.self.now c.go_on_or_rest.new.self c.go_on_or_rest.ensures.kept

pub returns-in-Goes-clause-cias : goal.returns-in-Goes-clause-cias
returns-in-Goes-clause-cias c stay = cias_stay c.args.self.now c.go_on_or_rest.new.self c.go_on_or_rest.ensures.kept

pub returns-in-Cia-clause-chips : goal.returns-in-Cia-clause-chips
returns-in-Cia-clause-chips c x is =
    goes_by_cia c.access_cia-word.result c.in-Cia.cia c.in-Cia.reg c.in-Cia.byte c.go_on.new.self x (c.access_cia-word.ensures.word x is)
    (turn_is c.turn.result (Cia c.in-Cia.cia c.in-Cia.reg c.in-Cia.byte) _ _ x c.self.view_is c.turn.ensures c.in-Cia.is is)
    (c.go_on.ensures.chips _ (c.access_cia-word.ensures.chips x is))

pub returns-in-Cia-clause-interrupt : goal.returns-in-Cia-clause-interrupt
returns-in-Cia-clause-interrupt c x is =
    begins_by_cia c.access_cia-word.result c.in-Cia.cia c.in-Cia.reg c.in-Cia.byte c.go_on.result x (c.access_cia-word.ensures.word x is)
    (turn_is c.turn.result (Cia c.in-Cia.cia c.in-Cia.reg c.in-Cia.byte) _ _ x c.self.view_is c.turn.ensures c.in-Cia.is is)
    (c.go_on.ensures.interrupt _ (c.access_cia-word.ensures.chips x is))

pub returns-in-Cia-clause-kept : goal.returns-in-Cia-clause-kept
returns-in-Cia-clause-kept c =
    all_but_both c.args.self.now c.access_cia-word.new.self c.go_on.new.self c.access_cia-word.ensures.kept c.go_on.ensures.kept

pub returns-in-Cia-clause-cias : goal.returns-in-Cia-clause-cias
returns-in-Cia-clause-cias c stay = absurd (false≢true stay)
