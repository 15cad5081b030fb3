-- Each line's way of taking an opcode apart gives the table's instruction.
use Rattle.std.proofs.Common.{◌∙◌, arith}
use Rattle.m68k_opcodes.proofs.Line0.{at_0}
use Rattle.m68k_opcodes.proofs.Line4.{at_4}
use Rattle.m68k_opcodes.proofs.Lines1to9.{at_1, at_2, at_3, at_5, at_6, at_7, at_8, at_9}
use Rattle.m68k_opcodes.proofs.LinesAtoF.{at_A, at_B, at_C, at_D, at_E, at_F}
use Rattle.m68k_opcodes.proofs.opcode.decode.Goals as goal

pub returns-in-0 : goal.returns-in-0
returns-in-0 c = record { instruction = c.immediates_and_bits.ensures ∙ (at_0 _ c.in-0.is).instr; one_row = (at_0 _ c.in-0.is).one_row }

pub returns-in-1 : goal.returns-in-1
returns-in-1 c = record { instruction = c.moves.ensures ∙ (at_1 _ c.in-1.is).instr; one_row = (at_1 _ c.in-1.is).one_row }

pub returns-in-2 : goal.returns-in-2
returns-in-2 c = record { instruction = c.moves-in-2.ensures ∙ (at_2 _ c.in-2.is).instr; one_row = (at_2 _ c.in-2.is).one_row }

pub returns-in-3 : goal.returns-in-3
returns-in-3 c = record { instruction = c.moves-in-3.ensures ∙ (at_3 _ c.in-3.is).instr; one_row = (at_3 _ c.in-3.is).one_row }

pub returns-in-4 : goal.returns-in-4
returns-in-4 c = record { instruction = c.miscellaneous.ensures ∙ (at_4 _ c.in-4.is).instr; one_row = (at_4 _ c.in-4.is).one_row }

pub returns-in-5 : goal.returns-in-5
returns-in-5 c = record { instruction = c.quick_and_conditions.ensures ∙ (at_5 _ c.in-5.is).instr; one_row = (at_5 _ c.in-5.is).one_row }

pub returns-in-6 : goal.returns-in-6
returns-in-6 c = record { instruction = c.branch-opcode.ensures ∙ (at_6 _ c.in-6.is).instr; one_row = (at_6 _ c.in-6.is).one_row }

pub returns-in-7 : goal.returns-in-7
returns-in-7 c = record { instruction = c.move_quick.ensures ∙ (at_7 _ c.in-7.is).instr; one_row = (at_7 _ c.in-7.is).one_row }

pub returns-in-8 : goal.returns-in-8
returns-in-8 c = record { instruction = c.or_and_divide.ensures ∙ (at_8 _ c.in-8.is).instr; one_row = (at_8 _ c.in-8.is).one_row }

pub returns-in-9 : goal.returns-in-9
returns-in-9 c = record { instruction = c.sums.ensures ∙ (at_9 _ c.in-9.is).instr; one_row = (at_9 _ c.in-9.is).one_row }

pub returns-in-10 : goal.returns-in-10
returns-in-10 c = record { instruction = (at_A _ c.in-10.is).instr; one_row = (at_A _ c.in-10.is).one_row }

pub returns-in-11 : goal.returns-in-11
returns-in-11 c = record { instruction = c.compare.ensures ∙ (at_B _ c.in-11.is).instr; one_row = (at_B _ c.in-11.is).one_row }

pub returns-in-12 : goal.returns-in-12
returns-in-12 c = record { instruction = c.and_and_multiply.ensures ∙ (at_C _ c.in-12.is).instr; one_row = (at_C _ c.in-12.is).one_row }

pub returns-in-13 : goal.returns-in-13
returns-in-13 c = record { instruction = c.sums-in-13.ensures ∙ (at_D _ c.in-13.is).instr; one_row = (at_D _ c.in-13.is).one_row }

pub returns-in-14 : goal.returns-in-14
returns-in-14 c = record { instruction = c.shifts.ensures ∙ (at_E _ c.in-14.is).instr; one_row = (at_E _ c.in-14.is).one_row }

pub returns-in_default : goal.returns-in_default
returns-in_default c = record { instruction = (at_F _ (omega arith)).instr; one_row = (at_F _ (omega arith)).one_row }
