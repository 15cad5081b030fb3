use Rattle.std.proofs.Common.{◌≡◌, Some, sym, ap, subst, ◌∙◌}
use Rattle.std.specs.Option.{option_copied_mut}
use Rattle.chip_set.specs.Chips.{WorkingChips, IsChipsOf}
use Rattle.chip_set.proofs.BlitLaws.{blit_ended, blit_goes_on}
use Rattle.chip_set.proofs.chips.Chips.give_blit.Goals as goal

pub returns-then-give-clause-gives : goal.returns-then-give-clause-gives
returns-then-give-clause-gives c chips is =
    let old : WorkingChips = record {
      registers = c.self.inside.registers;
      last = c.self.inside.fetcher;
      kinds = c.self.inside.sprites;
      copper = c.self.inside.copper;
      blit = c.self.inside.blit;
      zero = c.self.inside.zero;
      irq = c.self.inside.irq;
      processor = c.self.inside.processor;
      missed = c.self.inside.missed;
      cia_a = c.self.inside.cia_a;
      cia_b = c.self.inside.cia_b;
      inputs = c.self.inside.inputs;
    } in
    let kept : c.self.inside.blit ≡ Some c.in-Some.blit.now = sym c.as_mut.ensures.value ∙ ap (λ r. option_copied_mut r) c.in-Some.is in
    blit_ended c.args.word old c.end_blit.new.self c.in-Some.blit.now c.give.new.self kept c.give.ensures.gives
    (λ s ws stands. sym c.if-give.true ∙ c.give.ensures.ask s ws stands) c.end_blit.ensures.ends chips
    (subst (λ now. IsChipsOf now chips) (sym c.self.view_is) is)

pub returns-else-give-clause-gives : goal.returns-else-give-clause-gives
returns-else-give-clause-gives c chips is =
    let old : WorkingChips = record {
      registers = c.self.inside.registers;
      last = c.self.inside.fetcher;
      kinds = c.self.inside.sprites;
      copper = c.self.inside.copper;
      blit = c.self.inside.blit;
      zero = c.self.inside.zero;
      irq = c.self.inside.irq;
      processor = c.self.inside.processor;
      missed = c.self.inside.missed;
      cia_a = c.self.inside.cia_a;
      cia_b = c.self.inside.cia_b;
      inputs = c.self.inside.inputs;
    } in
    let kept : c.self.inside.blit ≡ Some c.in-Some.blit.now = sym c.as_mut.ensures.value ∙ ap (λ r. option_copied_mut r) c.in-Some.is in
    blit_goes_on c.args.word old c.in-Some.blit.now c.give.new.self kept c.give.ensures.gives
    (λ s ws stands. sym c.if-give.false ∙ c.give.ensures.ask s ws stands) chips (subst (λ now. IsChipsOf now chips) (sym c.self.view_is) is)
