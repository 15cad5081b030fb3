use Rattle.std.proofs.Common.{[], ◌∷◌}
use Rattle.script_read.proofs.PrintLaws.{steps-2, Extends-same, Extends-more, Extends-trans}
use Rattle.script_read.proofs.printer.put_number.Goals as goal

pub returns-in_err-push-clause-kept : goal.returns-in_err-push-clause-kept
returns-in_err-push-clause-kept c = Extends-same _ _ c.in_err-push.ensures.items

pub returns-in_err-put_digits-clause-kept : goal.returns-in_err-put_digits-clause-kept
returns-in_err-put_digits-clause-kept c =
    Extends-trans _ _ _ (Extends-more _ _ (32 ∷ []) c.in_ok-push.ensures.items) (Extends-same _ _ c.in_err-put_digits.ensures.refused)

pub returns-clause-ok : goal.returns-clause-ok
returns-clause-ok c = steps-2 _ _ _ (32 ∷ []) _ c.in_ok-push.ensures.items c.in_ok-put_digits.ensures.ok

pub returns-clause-kept : goal.returns-clause-kept
returns-clause-kept c = Extends-more _ _ _ (returns-clause-ok c)
