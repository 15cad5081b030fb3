use Rattle.std.proofs.Common.{refl}
use Rattle.m68k_exec.proofs.Following.{begin_again_rests, begin_again_broken}
use Rattle.m68k_exec.proofs.state.Cpu.start_replacement.Goals as goal

pub returns-in-Broken : goal.returns-in-Broken
returns-in-Broken c =
    rw (begin_again_broken c.start_walk.new.self _ c.args.under c.in-Broken.under c.start_walk.ensures c.in-Broken.is)
    (record { stands = c.start_walk-in-Broken.ensures; level = refl })

pub returns-in_default : goal.returns-in_default
returns-in_default c =
    rw (begin_again_rests c.start_walk.new.self _ c.args.under c.start_walk.ensures c.in_default.not-Broken)
    (record { stands = c.start_walk.ensures; level = refl })
