use Rattle.std.proofs.Common.{arith, ◌≡◌, ◌<◌, sym, ap, refl, ◌∙◌}
use Rattle.blit_words.specs.declared.blit.WordAsk.{WordAsk}
use Rattle.blit_words.specs.declared.blit.WordAsk.TheVariants.{D}
use Rattle.blit_words.specs.AreaBlit.{asks_per_word, word_ask}
use Rattle.blit_words.specs.Blitter.{is_done}
use Rattle.blitter_area.specs.Data.{words_with}
use Rattle.blitter_area.proofs.Rows.{write_ends}
use Rattle.blitter_area.proofs.Walking.{going, asked_is, answered_all, shows}
use Rattle.blitter_area.proofs.area.AreaBlit.give.Goals as goal

pub end_word-requires : goal.end_word-requires
end_word-requires c =
    let b = c.args.self.now in
    record {
      row = going b c.requires;
      word = b.word_is c.in-D.is;
      past = b.past_is c.in-D.is;
    }

pub take-requires-clause-row : goal.take-requires-clause-row
take-requires-clause-row c = going c.args.self.now c.requires

pub returns-in-D-clause-ask : goal.returns-in-D-clause-ask
returns-in-D-clause-ask c = λ s ws h. c.end_word.ensures.done ∙ ap is_done (shows _ s ws h)

pub returns-in-D-clause-gives : goal.returns-in-D-clause-gives
returns-in-D-clause-gives c = λ s ws h.
    let b = c.args.self.now in
    let writes : word_ask b.start b.place ≡ D = sym (asked_is b (going b c.requires)) ∙ c.in-D.is in
    let asks = ap asks_per_word h.walks.start in
    let low : b.place < asks_per_word b.start = omega (arith, asks, h.place) in
    c.end_word.ensures.ends s _ (answered_all b _ s ws c.args.word h (record {
      start = refl;
      row = refl;
      column = refl;
      pointers = refl;
      past = refl;
      results = refl;
      words = ap (λ (k : WordAsk). words_with k c.args.word b.words) (sym writes);
    })
    (write_ends b.start b.place low writes))

pub returns-in-A-clause-ask : goal.returns-in-A-clause-ask
returns-in-A-clause-ask c = λ s ws h. c.take.ensures.done ∙ ap is_done (shows _ s ws h)
