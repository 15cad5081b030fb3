use Rattle.machine.specs.Machine.{machine_over}
use Rattle.std.proofs.Common.{refl, sym, subst}
use Rattle.serial_model.specs.Events.{made_by_act}
use Rattle.machine.specs.MachineSteps.{Does}
use Rattle.machine.proofs.StepLaws.{Makes-happened, KeepsPlace-happened}
use Rattle.machine.proofs.machine.Machine.act.Goals as goal

pub returns-in_ok-write_with_line-in-Poke-clause-step : goal.returns-in_ok-write_with_line-in-Poke-clause-step
returns-in_ok-write_with_line-in-Poke-clause-step g c =
    Makes-happened c.args.act.now c.args.clx (machine_over g.S.Side.seen c.args.self.now) (record (machine_over g.S.Side.seen c.args.self.now)
    { chips = c.tell.new.self }) _ c.args.out.now _ refl c.tell.ensures
    (subst (λ a. Does (made_by_act a) c.args.clx (record (machine_over g.S.Side.seen c.args.self.now) { chips = c.tell.new.self }) c.args.out.now
    (machine_over g.S.Side.seen c.write_with_line.new.self)
    c.write_with_line.new.out) (sym c.in-Poke.is) (c.in_ok-write_with_line-in-Poke.ensures.does c.args.clx))

pub returns-in_ok-write_with_line-in-Poke-clause-place : goal.returns-in_ok-write_with_line-in-Poke-clause-place
returns-in_ok-write_with_line-in-Poke-clause-place g c =
    KeepsPlace-happened c.args.act.now c.args.clx (machine_over g.S.Side.seen c.args.self.now) (record (machine_over g.S.Side.seen c.args.self.now)
    { chips = c.tell.new.self }) _ c.args.out.now _ refl
    (subst (λ a. Does (made_by_act a) c.args.clx (record (machine_over g.S.Side.seen c.args.self.now) { chips = c.tell.new.self }) c.args.out.now
    (machine_over g.S.Side.seen c.write_with_line.new.self)
    c.write_with_line.new.out) (sym c.in-Poke.is) (c.in_ok-write_with_line-in-Poke.ensures.does c.args.clx))

pub returns-in_ok-read-in-Peek-clause-step : goal.returns-in_ok-read-in-Peek-clause-step
returns-in_ok-read-in-Peek-clause-step g c =
    Makes-happened c.args.act.now c.args.clx (machine_over g.S.Side.seen c.args.self.now) (record (machine_over g.S.Side.seen c.args.self.now)
    { chips = c.tell.new.self }) _ c.args.out.now _ refl c.tell.ensures
    (subst (λ a. Does (made_by_act a) c.args.clx (record (machine_over g.S.Side.seen c.args.self.now) { chips = c.tell.new.self }) c.args.out.now
    (machine_over g.S.Side.seen c.read.new.self)
    c.read.new.out) (sym c.in-Peek.is) c.in_ok-read-in-Peek.ensures.does)
