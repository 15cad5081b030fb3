use Rattle.std.proofs.Common.{sym, subst, ◌∙◌}
use Rattle.blit_words.specs.declared.blit.SlotAsk.{SlotAsk}
use Rattle.blitter_line.specs.Walk.{IsDoneAfterAll}
use Rattle.blitter_line.proofs.Walking.{shows, done_after_all}
use Rattle.blitter_line.proofs.line.LineBlit.next.Goals as goal

pub returns-clause-ask : goal.returns-clause-ask
returns-clause-ask c = λ s ws h. c.slot_now.ensures ∙ shows c.args.self.now s ws h

pub returns-clause-done : goal.returns-clause-done
returns-clause-done c = λ s ws h.
    subst (λ (a : SlotAsk). IsDoneAfterAll a s ws) (sym c.slot_now.ensures) (done_after_all c.args.self.now s ws h)
