use Rattle.std.proofs.Common.{arith}
use Rattle.std.proofs.lemmas.Grind.{common_steps}
use Rattle.m68k_opcodes.proofs.opcode.address_or_check.Goals as goal

pub returns-in-3-Some-default : goal.returns-in-3-Some-default
returns-in-3-Some-default c = grind (arith, common_steps)

pub returns-in-2-default-Some : goal.returns-in-2-default-Some
returns-in-2-default-Some c = grind (arith, common_steps)

pub returns-in_default : goal.returns-in_default
returns-in_default c = grind (arith, common_steps)
