use Rattle.std.proofs.Common.{arith, ◌+◌, ◌≤◌, ap, refl, sym, ◌∙◌}
use Rattle.blit_words.specs.declared.blit.WordAsk.{WordAsk}
use Rattle.blit_words.specs.AreaBlit.{asks_per_word}
use Rattle.blitter_area.specs.Data.{words_with}
use Rattle.blitter_area.proofs.Rows.{input_reads, inputs_first}
use Rattle.blitter_area.proofs.Walking.{asked, asked_is, answered, goes_on}
use Rattle.blitter_area.proofs.area.AreaBlit.take.Goals as goal

pub invariant_of-self-clause-ask_is : goal.invariant_of-self-clause-ask_is
invariant_of-self-clause-ask_is c =
    let b = c.args.self.now in
    c.at-self.ensures b.start b.asks_are ∙ sym (asked b.start b.row (b.place + 1) c.requires.row)

pub invariant_of-self-clause-word_is : goal.invariant_of-self-clause-word_is
invariant_of-self-clause-word_is c =
    let b = c.args.self.now in
    let more = c.if-self-2.true in
    let within : b.place + 1 ≤ b.asks.last_input = omega (arith, more) in
    λ writes. absurd (input_reads b.start b.asks (b.place + 1) b.asks_are within (sym (c.at-self.ensures b.start b.asks_are) ∙ writes))

pub invariant_of-self-clause-past_is : goal.invariant_of-self-clause-past_is
invariant_of-self-clause-past_is c =
    let b = c.args.self.now in
    let more = c.if-self-2.true in
    let within : b.place + 1 ≤ b.asks.last_input = omega (arith, more) in
    λ writes mixes. absurd (input_reads b.start b.asks (b.place + 1) b.asks_are within (sym (c.at-self.ensures b.start b.asks_are) ∙ writes))

pub returns-then-self-2-clause-done : goal.returns-then-self-2-clause-done
returns-then-self-2-clause-done c = goes_on _ c.requires.row

pub returns-then-self-2-clause-gives : goal.returns-then-self-2-clause-gives
returns-then-self-2-clause-gives c = λ s ws h.
    let b = c.args.self.now in
    let asks = ap asks_per_word h.walks.start in
    let last = b.asks_are.last in
    let first = inputs_first b.start b.asks b.asks_are in
    let more = c.if-self-2.true in
    record {
      walks = answered b _ s ws c.args.word h (record {
        start = refl;
        row = refl;
        column = refl;
        pointers = refl;
        past = refl;
        results = refl;
        words = c.take.ensures ∙ ap (λ (k : WordAsk). words_with k c.args.word b.words) (asked_is b c.requires.row);
      });
      place = omega (arith, asks, last, first, more);
    }

pub returns-else-self-2-clause-gives : goal.returns-else-self-2-clause-gives
returns-else-self-2-clause-gives c = λ s ws h.
    let b = c.args.self.now in
    c.mix_word.ensures.ends s _ (answered b _ s ws c.args.word h (record {
      start = refl;
      row = refl;
      column = refl;
      pointers = refl;
      past = refl;
      results = refl;
      words = c.take.ensures ∙ ap (λ (k : WordAsk). words_with k c.args.word b.words) (asked_is b c.requires.row);
    }))
    h.place
