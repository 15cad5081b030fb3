-- One turn more is one step.
use Rattle.m68k_alu.proofs.Turning.{left_goes}
use Rattle.m68k_alu.proofs.rotations.op_rol.Goals as goal

pub returns-clause-step : goal.returns-clause-step
returns-clause-step c = left_goes c.args.size c.args.a
