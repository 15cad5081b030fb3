use Rattle.std.proofs.Common.{refl, sym}
use Rattle.std.proofs.lemmas.Bool.{false≢true}
use Rattle.m68k_exec.proofs.state.Cpu.pass_plain_boundary.Goals as goal

pub returns-then-regs-eq0-clause-stays : goal.returns-then-regs-eq0-clause-stays
returns-then-regs-eq0-clause-stays c e = absurd (false≢true (sym e))

pub returns-then-self-clause-passes : goal.returns-then-self-clause-passes
returns-then-self-clause-passes c clocks under is e = absurd (false≢true e)

pub returns-then-self-clause-stays : goal.returns-then-self-clause-stays
returns-then-self-clause-stays c e = refl

pub returns-else-not-self-clause-passes : goal.returns-else-not-self-clause-passes
returns-else-not-self-clause-passes c clocks under is e = absurd (false≢true e)

pub returns-else-not-self-clause-stays : goal.returns-else-not-self-clause-stays
returns-else-not-self-clause-stays c e = refl

pub returns : goal.returns
returns c = record { passes = λ clocks under is e. absurd (false≢true e); stays = λ e. refl }
