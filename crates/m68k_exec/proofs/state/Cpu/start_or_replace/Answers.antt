use Rattle.std.proofs.Common.{refl}
use Rattle.m68k_exec.proofs.Following.{begin_rests, begin_broken}
use Rattle.m68k_exec.proofs.state.Cpu.start_or_replace.Goals as goal

pub returns-in-Broken : goal.returns-in-Broken
returns-in-Broken c =
    rw (begin_broken c.start_walk.new.self _ c.args.under c.in-Broken.under c.start_walk.ensures c.in-Broken.is)
    c.start_replacement.ensures

pub returns-in_default : goal.returns-in_default
returns-in_default c =
    rw (begin_rests c.start_walk.new.self _ c.args.under c.start_walk.ensures c.in_default.not-Broken)
    (record { stands = c.start_walk.ensures; level = refl })
