use Rattle.std.proofs.Common.{◌++◌, flat_map, sym, ap, ◌∙◌, append_assoc, append-nil}
use Rattle.std.proofs.lemmas.List.{take_all}
use Rattle.script_read.specs.code.Number.{number_part}
use Rattle.script_read.proofs.PrintLaws.{text-more, Extends-same, Extends-more, Extends-trans}
use Rattle.script_read.proofs.printer.put_words.Goals as goal

pub returns-in_err-extend_from_slice-clause-kept : goal.returns-in_err-extend_from_slice-clause-kept
returns-in_err-extend_from_slice-clause-kept c = Extends-same _ _ c.in_err-extend_from_slice.ensures.items

pub loop-number-init : goal.loop-number-init
loop-number-init c = c.in_ok-extend_from_slice.ensures.items ∙ sym (append-nil (c.args.into.now.items ++ c.args.first.now))

pub loop-number-preserved : goal.loop-number-preserved
loop-number-preserved c = text-more number_part (c.args.into.now.items ++ c.args.first.now) c.loop-number.into.items c.put_number.new.into.items
    c.args.numbers.now c.loop-number.number-index c.number-item.result c.loop-number-test.true c.number-item.is c.loop-number.invariant
    c.in_ok-put_number.ensures.ok

pub returns-in_err-put_number-clause-kept : goal.returns-in_err-put_number-clause-kept
returns-in_err-put_number-clause-kept c =
    Extends-trans _ _ _ (Extends-more _ _ _ (c.loop-number.invariant ∙ append_assoc c.args.into.now.items c.args.first.now _)) c.in_err-put_number.ensures.kept

pub returns-clause-ok : goal.returns-clause-ok
returns-clause-ok c =
    c.loop-number.invariant ∙ append_assoc c.args.into.now.items c.args.first.now _
    ∙ ap (λ numbers. c.args.into.now.items ++ (c.args.first.now ++ flat_map number_part numbers)) (take_all _ _ c.loop-number-test.false)

pub returns-clause-kept : goal.returns-clause-kept
returns-clause-kept c = Extends-more _ _ _ (returns-clause-ok c)
