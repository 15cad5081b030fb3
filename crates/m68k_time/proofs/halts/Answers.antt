use Rattle.m68k_time.proofs.HaltLaws.{program_halts, walk_halts}
use Rattle.m68k_time.proofs.halts.Goals as goal

pub returns-clause-programs : goal.returns-clause-programs
returns-clause-programs c = program_halts

pub returns-clause-walk : goal.returns-clause-walk
returns-clause-walk c = walk_halts
