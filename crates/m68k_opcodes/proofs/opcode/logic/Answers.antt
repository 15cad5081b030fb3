use Rattle.std.proofs.Common.{arith}
use Rattle.std.proofs.lemmas.Grind.{common_steps}
use Rattle.m68k_opcodes.proofs.opcode.logic.Goals as goal

pub returns-then-bit_8-eq0 : goal.returns-then-bit_8-eq0
returns-then-bit_8-eq0 c = grind (arith, common_steps)

pub returns-then-mode_bits-ge2 : goal.returns-then-mode_bits-ge2
returns-then-mode_bits-ge2 c = grind (arith, common_steps)

pub returns-then-size_bits-gt0 : goal.returns-then-size_bits-gt0
returns-then-size_bits-gt0 c = grind (arith, common_steps)

pub returns : goal.returns
returns c = grind (arith, common_steps)
