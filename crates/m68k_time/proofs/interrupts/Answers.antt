use Rattle.m68k_time.proofs.LevelLaws.{walk_interrupts}
use Rattle.m68k_time.proofs.interrupts.Goals as goal

pub returns : goal.returns
returns c = walk_interrupts
