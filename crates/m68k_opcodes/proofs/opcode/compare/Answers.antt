use Rattle.std.proofs.Common.{arith}
use Rattle.std.proofs.lemmas.Grind.{common_steps}
use Rattle.m68k_opcodes.proofs.opcode.compare.Goals as goal

pub returns-in-None-default-default : goal.returns-in-None-default-default
returns-in-None-default-default c = grind (arith, common_steps)

pub returns-in-Some-eq0-default : goal.returns-in-Some-eq0-default
returns-in-Some-eq0-default c = grind (arith, common_steps)

pub returns-in-Some-default-eq1 : goal.returns-in-Some-default-eq1
returns-in-Some-default-eq1 c = grind (arith, common_steps)

pub returns-in-Some-default-default : goal.returns-in-Some-default-default
returns-in-Some-default-default c = grind (arith, common_steps)
