use Rattle.std.proofs.Common.{arith, rules, ◌≡◌, ◌+◌, ◌<◌, bit_or, ap, refl, sym, ◌∙◌}
use Rattle.blitter_area.proofs.Rows.{first_reads}
use Rattle.blit_words.specs.BlitWords.{is_set}
use Rattle.blit_words.specs.Blit.{width_of}
use Rattle.blitter_area.specs.declared.data_path.Past.{Past}
use Rattle.blitter_area.proofs.Walking.{IsReady, left_a, left_b, left_carry, ended_within, ended_over, goes_on}
use Rattle.blitter_area.proofs.area.AreaBlit.end_word.Goals as goal

pub invariant_of-self-clause-word_is : goal.invariant_of-self-clause-word_is
invariant_of-self-clause-word_is c =
    let b = c.args.self.now in
    λ writes. absurd (first_reads b.start (sym (c.at-self.ensures b.start b.asks_are) ∙ writes))

pub invariant_of-self-clause-past_is : goal.invariant_of-self-clause-past_is
invariant_of-self-clause-past_is c =
    let b = c.args.self.now in
    λ writes mixes. absurd (first_reads b.start (sym (c.at-self.ensures b.start b.asks_are) ∙ writes))

pub invariant_of-self-else-self-clause-word_is : goal.invariant_of-self-else-self-clause-word_is
invariant_of-self-else-self-clause-word_is c =
    let b = c.args.self.now in
    λ writes. absurd (first_reads b.start (sym (c.at-self.ensures b.start b.asks_are) ∙ writes))

pub invariant_of-self-else-self-clause-past_is : goal.invariant_of-self-else-self-clause-past_is
invariant_of-self-else-self-clause-past_is c =
    let b = c.args.self.now in
    λ writes mixes. absurd (first_reads b.start (sym (c.at-self.ensures b.start b.asks_are) ∙ writes))

pub begin_row-requires-clause-reads : goal.begin_row-requires-clause-reads
begin_row-requires-clause-reads c =
    let b = c.args.self.now in
    λ writes. first_reads b.start (sym (c.at-self.ensures b.start b.asks_are) ∙ writes)

pub returns-then-self-clause-done : goal.returns-then-self-clause-done
returns-then-self-clause-done c = goes_on _ c.requires.row

pub returns-then-self-clause-ends : goal.returns-then-self-clause-ends
returns-then-self-clause-ends c = λ s ws h.
    let b = c.args.self.now in
    let is : IsReady b = record { word = c.requires.word; past = c.requires.past } in
    let before_low : b.past.a < 65536 = search rules in
    let low : b.words.a < 65536 = search rules in
    ended_within b _ s ws h (record {
      start = refl;
      words = refl;
      place = refl;
      results = ap (bit_or b.results) is.word;
      past_a = ap (λ (p : Past). p.a) c.follow.ensures ∙ left_a b is before_low low;
      past_b = λ other. ap (λ (p : Past). p.b) c.follow.ensures ∙ left_b b is other;
    })
    refl refl (c.step_word.ensures s b.row b.column h.pointers) (λ fills. ap (λ (p : Past). p.carry) c.follow.ensures ∙ left_carry b is fills)

pub returns-else-self-clause-ends : goal.returns-else-self-clause-ends
returns-else-self-clause-ends c = λ s ws h.
    let b = c.args.self.now in
    let is : IsReady b = record { word = c.requires.word; past = c.requires.past } in
    let before_low : b.past.a < 65536 = search rules in
    let low : b.words.a < 65536 = search rules in
    let begins = c.begin_row.ensures.begins in
    let past = begins.past ∙ ap (λ (p : Past). record p { carry = is_set b.start.con1 2 }) c.follow.ensures in
    let width = ap width_of h.start in
    let value = b.path_is.last_column in
    let inside = b.column_inside in
    let last : b.column + 1 ≡ width_of s = omega (arith, width, value, inside) in
    ended_over b _ s ws h (record {
      start = begins.start;
      words = begins.words;
      place = begins.place;
      results = begins.results ∙ ap (bit_or b.results) is.word;
      past_a = ap (λ (p : Past). p.a) past ∙ left_a b is before_low low;
      past_b = λ other. ap (λ (p : Past). p.b) past ∙ left_b b is other;
    })
    last begins.row begins.column (begins.pointers s b.row (b.column + 1) last (c.step_word.ensures s b.row b.column h.pointers))
    (ap (λ (p : Past). p.carry) begins.past)
