-- One turn more is one step.
use Rattle.m68k_alu.proofs.Turning.{right_goes}
use Rattle.m68k_alu.proofs.rotations.op_ror.Goals as goal

pub returns-clause-step : goal.returns-clause-step
returns-clause-step c = right_goes c.args.size c.args.a
