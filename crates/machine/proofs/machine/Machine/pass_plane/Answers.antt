use Rattle.std.proofs.Common.{refl}
use Rattle.serial_model.specs.declared.bus.Ask.TheVariants as A
use Rattle.machine.specs.Machine.{MachineValue, machine_over}
use Rattle.machine.proofs.AheadLaws.{waits_behind, left_behind, plane_accesses, busy_beside}
use Rattle.machine.proofs.machine.Machine.pass_plane.Goals as goal

pub returns-clause-waits : goal.returns-clause-waits
returns-clause-waits g c waited out =
    let m : MachineValue = machine_over g.S.Side.seen c.args.self.now in
    waits_behind (A.Plane c.args.ask.now) _ m m c.wait_beside.new.self out refl (c.wait_beside.ensures.waits waited)
    (plane_accesses c.args.ask.now m out c.requires.leaves c.requires.can)

pub returns-clause-left : goal.returns-clause-left
returns-clause-left g c left out =
    let m : MachineValue = machine_over g.S.Side.seen c.args.self.now in
    left_behind (A.Plane c.args.ask.now) _ m m c.wait_beside.new.self out (c.wait_beside.ensures.left left (A.Plane c.args.ask.now) refl)
    (plane_accesses c.args.ask.now m out c.requires.leaves c.requires.can)

pub returns-clause-busy : goal.returns-clause-busy
returns-clause-busy g c =
    busy_beside _ c.args.self.now.chips c.wait_beside.new.self c.wait_beside.ensures.waits c.wait_beside.ensures.left
