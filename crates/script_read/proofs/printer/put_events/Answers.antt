use Rattle.std.proofs.Common.{◌++◌, flat_map, sym, ap, subst, ◌∙◌, append-nil}
use Rattle.std.proofs.lemmas.List.{take_all}
use Rattle.script_read.specs.Canonical.{HasWords, AllHaveWords, event_text}
use Rattle.script_read.proofs.PrintLaws.{text-more, AllHaveWords-more, Extends-more, Extends-trans}
use Rattle.script_read.proofs.printer.put_events.Goals as goal

pub loop-at-init : goal.loop-at-init
loop-at-init c = record { text = sym (append-nil c.args.into.now.items); words = tt }

pub loop-at-preserved : goal.loop-at-preserved
loop-at-preserved c = record {
  text = text-more event_text c.args.into.now.items c.loop-at.into.items c.put_event.new.into.items c.args.events.now c.loop-at.at-index c.at-item.result
      c.loop-at-test.true c.at-item.is c.loop-at.invariant.text c.in_ok-put_event.ensures.ok;
  words = AllHaveWords-more c.args.events.now c.loop-at.at-index c.at-item.result c.loop-at-test.true c.loop-at.invariant.words
      (subst (λ at. HasWords at.act) c.at-item.is c.in_ok-put_event.ensures.words);
}

pub returns-in_err-put_event-clause-kept : goal.returns-in_err-put_event-clause-kept
returns-in_err-put_event-clause-kept c = Extends-trans _ _ _ (Extends-more _ _ _ c.loop-at.invariant.text) c.in_err-put_event.ensures.kept

pub returns-clause-ok : goal.returns-clause-ok
returns-clause-ok c = c.loop-at.invariant.text ∙ ap (λ events. c.args.into.now.items ++ flat_map event_text events) (take_all _ _ c.loop-at-test.false)

pub returns-clause-words : goal.returns-clause-words
returns-clause-words c = subst AllHaveWords (take_all _ _ c.loop-at-test.false) c.loop-at.invariant.words

pub returns-clause-kept : goal.returns-clause-kept
returns-clause-kept c = Extends-more _ _ _ c.loop-at.invariant.text
