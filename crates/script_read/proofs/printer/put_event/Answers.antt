use Rattle.std.proofs.Common.{◌++◌, ap, ◌∙◌}
use Rattle.script_read.proofs.PrintLaws.{steps-3, event-text, Extends-same, Extends-more, Extends-trans}
use Rattle.script_read.proofs.printer.put_event.Goals as goal

pub returns-clause-ok : goal.returns-clause-ok
returns-clause-ok c =
    steps-3 _ _ _ _ _ _ _ c.in_ok-put_words.ensures.ok c.in_ok-put_act.ensures.ok c.in_ok-push.ensures.items
    ∙ ap (λ text. c.args.into.now.items ++ text) (event-text c.args.at.now)

pub returns-in_err-put_act-clause-kept : goal.returns-in_err-put_act-clause-kept
returns-in_err-put_act-clause-kept c = Extends-trans _ _ _ c.in_ok-put_words.ensures.kept c.in_err-put_act.ensures.kept

pub returns-in_err-push-clause-kept : goal.returns-in_err-push-clause-kept
returns-in_err-push-clause-kept c =
    Extends-trans _ _ _ (Extends-trans _ _ _ c.in_ok-put_words.ensures.kept c.in_ok-put_act.ensures.kept) (Extends-same _ _ c.in_err-push.ensures.items)

pub returns-clause-kept : goal.returns-clause-kept
returns-clause-kept c = Extends-more _ _ _ (returns-clause-ok c)
