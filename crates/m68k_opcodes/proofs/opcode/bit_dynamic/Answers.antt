use Rattle.std.proofs.Common.{arith}
use Rattle.std.proofs.lemmas.Grind.{common_steps}
use Rattle.m68k_opcodes.proofs.opcode.bit_dynamic.Goals as goal

pub returns-then-mode_bits-eq1 : goal.returns-then-mode_bits-eq1
returns-then-mode_bits-eq1 c = grind (arith, common_steps)

pub returns-in-Some : goal.returns-in-Some
returns-in-Some c = grind (arith, common_steps)

pub returns-in-None : goal.returns-in-None
returns-in-None c = grind (arith, common_steps)
