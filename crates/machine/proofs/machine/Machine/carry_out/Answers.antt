use Rattle.machine.specs.Machine.{machine_over}
use Rattle.std.proofs.Common.{sym, subst, ap}
use Rattle.serial_model.specs.Made.{is_clx_read}
use Rattle.machine.specs.MachineSteps.{Does}
use Rattle.machine.proofs.machine.Machine.carry_out.Goals as goal

pub returns-in_ok-write-in-Wrote-clause-does : goal.returns-in_ok-write-in-Wrote-clause-does
returns-in_ok-write-in-Wrote-clause-does g c =
    subst (λ m. Does m c.args.clx (machine_over g.S.Side.seen c.args.self.now) c.args.out.now (machine_over g.S.Side.seen c.write.new.self) c.write.new.out)
    (sym c.in-Wrote.is)
    (c.in_ok-write-in-Wrote.ensures.does c.args.clx)

pub returns-in_ok-store-in-Stored-clause-does : goal.returns-in_ok-store-in-Stored-clause-does
returns-in_ok-store-in-Stored-clause-does g c =
    subst (λ m. Does m c.args.clx (machine_over g.S.Side.seen c.args.self.now) c.args.out.now (machine_over g.S.Side.seen c.store.new.self) c.args.out.now)
    (sym c.in-Stored.is)
    (c.in_ok-store-in-Stored.ensures.does c.args.clx c.args.out.now)

pub store-requires : goal.store-requires
store-requires g c = c.requires (ap (λ m. is_clx_read m) c.in-Stored.is)
