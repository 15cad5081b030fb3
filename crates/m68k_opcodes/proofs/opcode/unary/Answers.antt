use Rattle.std.proofs.Common.{arith}
use Rattle.std.proofs.lemmas.Grind.{common_steps}
use Rattle.m68k_opcodes.proofs.opcode.unary.Goals as goal

pub returns-in-Some-Some : goal.returns-in-Some-Some
returns-in-Some-Some c = grind (arith, common_steps)

pub returns-in-Some-None : goal.returns-in-Some-None
returns-in-Some-None c = grind (arith, common_steps)

pub returns-in-0-Some-default : goal.returns-in-0-Some-default
returns-in-0-Some-default c = grind (arith, common_steps)

pub returns-in-2-default-Some : goal.returns-in-2-default-Some
returns-in-2-default-Some c = grind (arith, common_steps)

pub returns-in-3-default-Some : goal.returns-in-3-default-Some
returns-in-3-default-Some c = grind (arith, common_steps)

pub returns-in_default : goal.returns-in_default
returns-in_default c = grind (arith, common_steps)
