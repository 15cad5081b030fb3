use Rattle.std.proofs.Common.{arith}
use Rattle.std.proofs.lemmas.Grind.{common_steps}
use Rattle.m68k_opcodes.proofs.opcode.miscellaneous.Goals as goal

pub returns-then-bit_8-eq1 : goal.returns-then-bit_8-eq1
returns-then-bit_8-eq1 c = grind (arith, common_steps)

pub returns-in-4 : goal.returns-in-4
returns-in-4 c = grind (arith, common_steps)

pub returns-in-5 : goal.returns-in-5
returns-in-5 c = grind (arith, common_steps)

pub returns-in-6 : goal.returns-in-6
returns-in-6 c = grind (arith, common_steps)

pub returns-in-7 : goal.returns-in-7
returns-in-7 c = grind (arith, common_steps)

pub returns-in_default : goal.returns-in_default
returns-in_default c = grind (arith, common_steps)
