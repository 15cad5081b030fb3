use Rattle.std.proofs.Common.{◌++◌, ◌∷◌, [], ap, ◌∙◌, flat_map}
use Rattle.script_read.specs.Canonical.{first_text, last_text, cpu_text}
use Rattle.script_read.specs.code.Number.{number_part}
use Rattle.script_read.specs.declared.printer.Number.TheVariants.{Decimal}
use Rattle.script_read.proofs.PrintLaws.{steps-3, head-text, Extends-same, Extends-more, Extends-trans}
use Rattle.script_read.proofs.printer.put_head.Goals as goal

pub returns-clause-ok : goal.returns-clause-ok
returns-clause-ok c =
    let script = c.args.script.now in
    steps-3 _ _ _ _ _ _ _ c.in_ok-extend_from_slice.ensures.items c.in_ok-put_words.ensures.ok c.in_ok-extend_from_slice-2.ensures.items
    ∙ (λ i. c.args.into.now.items ++ ((c.first_line.ensures ∙ (λ j. first_text (c.chip_size-chip.ensures j) (c.system-system.ensures j))) i
    ++ (((c.cpu_line.ensures ∙ ap cpu_text c.cpu.ensures) i ++ flat_map number_part (Decimal (c.frames.ensures i) ∷ []))
    ++ (c.last_lines.ensures ∙ (λ j. last_text (c.chip_size-chip.ensures j) (c.system-system.ensures j))) i)))
    ∙ ap (λ text. c.args.into.now.items ++ text) (head-text script.cpu script.frames script.chip script.system script.events)

pub returns-in_err-extend_from_slice-clause-kept : goal.returns-in_err-extend_from_slice-clause-kept
returns-in_err-extend_from_slice-clause-kept c = Extends-same _ _ c.in_err-extend_from_slice.ensures.items

pub returns-in_err-put_words-clause-kept : goal.returns-in_err-put_words-clause-kept
returns-in_err-put_words-clause-kept c =
    Extends-trans _ _ _ (Extends-more _ _ _ c.in_ok-extend_from_slice.ensures.items) c.in_err-put_words.ensures.kept

pub returns-in_err-extend_from_slice-2-clause-kept : goal.returns-in_err-extend_from_slice-2-clause-kept
returns-in_err-extend_from_slice-2-clause-kept c =
    Extends-trans _ _ _ (Extends-trans _ _ _ (Extends-more _ _ _ c.in_ok-extend_from_slice.ensures.items) c.in_ok-put_words.ensures.kept)
    (Extends-same _ _ c.in_err-extend_from_slice-2.ensures.items)

pub returns-clause-kept : goal.returns-clause-kept
returns-clause-kept c = Extends-more _ _ _ (returns-clause-ok c)
