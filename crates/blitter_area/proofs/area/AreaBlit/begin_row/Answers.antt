use Rattle.std.proofs.Common.{arith, rules, ℕ, ◌+◌, ◌<◌, nat_lt, if◌then◌else◌, Bool, sym, ap, refl, ◌∙◌}
use Rattle.blit_words.specs.declared.blit.WordAsk.{WordAsk}
use Rattle.blit_words.specs.declared.blit.WordAsk.TheVariants.{Rest}
use Rattle.blit_words.specs.AreaBlit.{word_ask}
use Rattle.blitter_area.proofs.Walking.{height_most, asked_is, before_writes}
use Rattle.blitter_area.proofs.area.AreaBlit.begin_row.Goals as goal

pub overflow_add-row : goal.overflow_add-row
overflow_add-row c =
    let low : c.args.self.now.start.size < 65536 = search rules in
    let most = height_most c.args.self.now.start low in
    let row = c.requires.row in
    omega (arith, most, row)

pub invariant_of-self-clause-ask_is : goal.invariant_of-self-clause-ask_is
invariant_of-self-clause-ask_is c =
    let b = c.args.self.now in
    let more : ℕ → Bool = λ h. nat_lt (b.row + 1) h in
    c.ask_before-self.ensures
    ∙ ap (λ (k : WordAsk). if more b.height then k else Rest) (asked_is b c.requires.row)
    ∙ ap (λ (h : ℕ). if more h then word_ask b.start b.place else Rest) b.height_is

pub invariant_of-self-clause-word_is : goal.invariant_of-self-clause-word_is
invariant_of-self-clause-word_is c =
    let b = c.args.self.now in
    λ writes. absurd (c.requires.reads (before_writes b.ask (nat_lt (b.row + 1) b.height) (sym c.ask_before-self.ensures ∙ writes)))

pub invariant_of-self-clause-past_is : goal.invariant_of-self-clause-past_is
invariant_of-self-clause-past_is c =
    let b = c.args.self.now in
    λ writes mixes. absurd (c.requires.reads (before_writes b.ask (nat_lt (b.row + 1) b.height) (sym c.ask_before-self.ensures ∙ writes)))

pub returns-clause-begins : goal.returns-clause-begins
returns-clause-begins c =
    let b = c.args.self.now in
    record {
      start = refl;
      words = refl;
      place = refl;
      results = refl;
      past = ap (λ (f : Bool). record b.past { carry = f }) c.is_set-fci.ensures;
      row = refl;
      column = refl;
      pointers = c.step_row.ensures;
    }
