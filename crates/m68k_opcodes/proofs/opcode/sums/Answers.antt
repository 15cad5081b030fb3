use Rattle.std.proofs.Common.{arith}
use Rattle.std.proofs.lemmas.Grind.{common_steps}
use Rattle.m68k_opcodes.proofs.opcode.sums.Goals as goal

pub returns-in-None-default-default : goal.returns-in-None-default-default
returns-in-None-default-default c = grind (arith, common_steps)

pub returns-in-Some-eq0-default : goal.returns-in-Some-eq0-default
returns-in-Some-eq0-default c = grind (arith, common_steps)

pub returns-in-Some-default-eq0 : goal.returns-in-Some-default-eq0
returns-in-Some-default-eq0 c = grind (arith, common_steps)

pub returns-in_default : goal.returns-in_default
returns-in_default c = grind (arith, common_steps)
