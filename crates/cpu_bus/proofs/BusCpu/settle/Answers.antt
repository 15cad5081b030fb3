use Rattle.std.proofs.Common.{refl, sym, ◌∙◌, [], ◌∷◌, ◌++◌}
use Rattle.irq_cia.specs.Interrupts.{level_of}
use Rattle.m68k_decode.specs.Walk.{next, stage}
use Rattle.cpu_bus.proofs.BusLaws.{goes_to, idle_waits}
use Rattle.cpu_bus.proofs.BusCpu.settle.Goals as goal

pub returns-in-Some-clause-goes : goal.returns-in-Some-clause-goes
returns-in-Some-clause-goes c word p is =
    let level = level_of c.args.irq.now in
    let answers = p.answers ++ word ∷ [] in
    goes_to word level p _ _ (stage p.regs p.under answers)
    (is.settles level ∙ c.idle_clocks_left.ensures.settles p.regs p.under answers c.in-Some.clocks level is.stands c.in-Some.is)
    is.chip is.on (record { stands = is.stands; level = refl })
    (sym (idle_waits _ (next p.regs p.under answers) c.in-Some.clocks
    (sym (c.idle_clocks_left.ensures.asks p.regs p.under answers c.in-Some.clocks is.stands c.in-Some.is))))
    refl refl
