use Rattle.std.proofs.Common.{[], subst, sym}
use Rattle.serial_model.specs.Turns.{taken_lines}
use Rattle.out_files.specs.Gives.{Gives}
use Rattle.out_files.proofs.GivesLaws.{gives_nothing, gives_line}
use Rattle.machine.proofs.ahead.tell_interrupt.Goals as goal

pub returns-in_ok-line-in-Some-clause-lines : goal.returns-in_ok-line-in-Some-clause-lines
returns-in_ok-line-in-Some-clause-lines c =
    subst (λ begins. Gives c.args.out.now c.line.new.self [] (taken_lines c.args.beam.now begins)) (sym c.in-Some.is)
    (gives_line _ _ _ c.in_ok-line-in-Some.ensures.ok c.in_ok-line-in-Some.ensures.together)

pub returns-in-None-clause-lines : goal.returns-in-None-clause-lines
returns-in-None-clause-lines c =
    subst (λ begins. Gives c.args.out.now c.args.out.now [] (taken_lines c.args.beam.now begins)) (sym c.in-None.is) (gives_nothing c.args.out.now)
