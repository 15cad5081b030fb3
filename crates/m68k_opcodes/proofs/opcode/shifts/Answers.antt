use Rattle.std.proofs.Common.{arith}
use Rattle.std.proofs.lemmas.Grind.{common_steps}
use Rattle.m68k_opcodes.proofs.opcode.shifts.Goals as goal

pub returns-in-Some-default : goal.returns-in-Some-default
returns-in-Some-default c = grind (arith, common_steps)

pub returns-in-None-Some : goal.returns-in-None-Some
returns-in-None-Some c = grind (arith, common_steps)

pub returns-in_default : goal.returns-in_default
returns-in_default c = grind (arith, common_steps)
