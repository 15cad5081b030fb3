use Rattle.std.proofs.Common.{◌++◌, ap, ◌∙◌, flat_map, codes}
use Rattle.script_read.specs.Canonical.{head_text, event_text}
use Rattle.script_read.specs.Versions.{lowest}
use Rattle.script_read.proofs.PrintLaws.{steps-3, script-text, Extends-same, Extends-more, Extends-trans}
use Rattle.script_read.proofs.printer.put_script.Goals as goal

pub returns-clause-ok : goal.returns-clause-ok
returns-clause-ok c =
    let script = c.args.script.now in
    steps-3 _ _ _ _ _ _ _ c.in_ok-put_head.ensures.ok c.in_ok-put_events.ensures.ok c.in_ok-extend_from_slice.ensures.items
    ∙ (λ i. c.args.into.now.items ++ (head_text (lowest script.chip script.system) script ++ (flat_map event_text (c.events.ensures i) ++ codes "end\n")))
    ∙ ap (λ text. c.args.into.now.items ++ text) (script-text script)

pub returns-in_err-put_events-clause-kept : goal.returns-in_err-put_events-clause-kept
returns-in_err-put_events-clause-kept c = Extends-trans _ _ _ c.in_ok-put_head.ensures.kept c.in_err-put_events.ensures.kept

pub returns-in_err-extend_from_slice-clause-kept : goal.returns-in_err-extend_from_slice-clause-kept
returns-in_err-extend_from_slice-clause-kept c =
    Extends-trans _ _ _ (Extends-trans _ _ _ c.in_ok-put_head.ensures.kept c.in_ok-put_events.ensures.kept)
    (Extends-same _ _ c.in_err-extend_from_slice.ensures.items)

pub returns-clause-kept : goal.returns-clause-kept
returns-clause-kept c = Extends-more _ _ _ (returns-clause-ok c)
