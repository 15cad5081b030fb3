use Rattle.std.proofs.Common.{arith, ◌≡◌, ◌+◌, sym, ap, subst, ℕ, ◌∙◌}
use Rattle.blit_words.specs.AreaBlit.{asks_per_word}
use Rattle.blitter_area.specs.Walk.{Walks}
use Rattle.blitter_area.proofs.Rows.{input_then}
use Rattle.blitter_area.proofs.Walking.{asked, goes_on}
use Rattle.blitter_area.proofs.area.AreaBlit.end_inputs.Goals as goal

pub invariant_of-self-clause-ask_is : goal.invariant_of-self-clause-ask_is
invariant_of-self-clause-ask_is c =
    let b = c.args.self.now in
    sym (input_then b.start b.asks b.place b.asks_are c.requires.inputs c.if-self.true)
    ∙ sym (asked b.start b.row (b.place + 1) c.requires.row)

pub returns-then-self-clause-done : goal.returns-then-self-clause-done
returns-then-self-clause-done c = goes_on _ c.requires.row

pub returns-then-self-clause-ends : goal.returns-then-self-clause-ends
returns-then-self-clause-ends c = λ s ws h low.
    let b = c.args.self.now in
    let asks = ap asks_per_word h.start in
    let last = b.asks_are.last in
    let more = c.if-self.true in
    record {
      walks = record {
        start = h.start;
        area = h.area;
        count = h.count;
        pointers = h.pointers;
        words = h.words;
        past = h.past;
        zero = h.zero;
      };
      place = omega (arith, asks, last, more);
    }

pub returns-else-self-clause-ends : goal.returns-else-self-clause-ends
returns-else-self-clause-ends c = λ s ws h low.
    let b = c.args.self.now in
    let asks = ap asks_per_word h.start in
    let last = b.asks_are.last in
    let end : b.place + 1 ≡ asks_per_word s = omega (arith, asks, last, low) in
    c.end_word.ensures.ends s ws (subst (λ (p : ℕ). Walks b s ws p) end h)
