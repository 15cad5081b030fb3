use Rattle.std.proofs.Common.{rules}
use Rattle.foreground.proofs.ScriptLaws.{lines_of_event, lines_same, machine_of_event}
use Rattle.foreground.proofs.script.happen.Goals as goal

pub returns-clause-some : goal.returns-clause-some
returns-clause-some g c =
    let some = machine_of_event _ _ _ _ _ _ c.requires c.in_ok-act.ensures.step in
    search (rules, some)

pub returns-clause-told : goal.returns-clause-told
returns-clause-told g c = lines_of_event _ _ _ _ _ _ c.requires c.in_ok-act.ensures.step

pub returns-in_err-act-clause-told : goal.returns-in_err-act-clause-told
returns-in_err-act-clause-told g c = lines_same _ _ c.in_err-act.ensures.refused
