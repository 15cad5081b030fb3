use Rattle.std.proofs.Common.{ap, refl, sym, ◌∙◌}
use Rattle.blit_words.specs.declared.blit.WordAsk.{WordAsk}
use Rattle.blit_words.specs.AreaBlit.{word_ask}
use Rattle.blitter_area.specs.Data.{words_with}
use Rattle.blitter_area.specs.declared.data_path.Outcome.{Outcome}
use Rattle.blitter_area.proofs.Results.{ready_outcome}
use Rattle.blitter_area.proofs.Rows.{copied_read, copied_write}
use Rattle.blitter_area.proofs.Walking.{asked, goes_on, copied_on, not_both}
use Rattle.blitter_area.proofs.area.AreaBlit.copy.Goals as goal

pub invariant_of-self-clause-ask_is : goal.invariant_of-self-clause-ask_is
invariant_of-self-clause-ask_is c =
    let b = c.args.self.now in
    sym (copied_write b.start (b.path_is.copies c.requires.copies)) ∙ sym (asked b.start b.row 1 c.requires.row)

pub invariant_of-self-clause-word_is : goal.invariant_of-self-clause-word_is
invariant_of-self-clause-word_is c =
    let b = c.args.self.now in
    λ writes. c.copied_word-self.ensures ∙ ap (λ (o : Outcome). o.word) (ready_outcome b.path b.start b.past b.column _ b.path_is)

pub invariant_of-self-clause-past_is : goal.invariant_of-self-clause-past_is
invariant_of-self-clause-past_is c = λ writes mixes. absurd (not_both (sym c.requires.copies ∙ mixes))

pub returns-clause-going : goal.returns-clause-going
returns-clause-going c = goes_on _ c.requires.row

pub returns-clause-gives : goal.returns-clause-gives
returns-clause-gives c = λ s ws h.
    let b = c.args.self.now in
    let code = b.path_is.copies c.requires.copies in
    let read = copied_read b.start code in
    copied_on b _ s ws c.args.word h code c.requires.row c.requires.reads (λ first. record {
      start = refl;
      row = refl;
      column = refl;
      pointers = refl;
      past = refl;
      results = refl;
      words = ap (λ (k : WordAsk). words_with k c.args.word b.words) (sym read ∙ ap (word_ask b.start) (sym first));
    }) refl
