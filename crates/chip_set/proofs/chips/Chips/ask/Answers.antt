use Rattle.std.proofs.Common.{◌≡◌, Some, None, refl, subst, sym, ◌∙◌}
use Rattle.serial_model.specs.State.{Chips}
use Rattle.serial_model.specs.Bus.{ask_at}
use Rattle.chip_set.specs.Chips.{WorkingChips, IsChipsOf, HasAsked, IsBlitAsk, kept_wish, plain_chips}
use Rattle.cpu_bus.specs.Bus.{wish_shown}
use Rattle.chip_set.proofs.AbleLaws.{ask_can}
use Rattle.chip_set.proofs.AskLaws.{HasFetched, fetched_by_steps, ask_is_at, has_asked, ask_is_of_blit}
use Rattle.chip_set.proofs.chips.Chips.ask.Goals as goal

-- the chips before, and after the steps: where no plane fetches, and where one does
abbrev before_free : goal.After-owner_ask → WorkingChips
before_free c = record {
  registers = c.self.inside.registers;
  last = c.self.inside.fetcher;
  kinds = c.self.inside.sprites;
  copper = c.self.inside.copper;
  blit = c.self.inside.blit;
  zero = c.self.inside.zero;
  irq = c.self.inside.irq;
  processor = c.self.inside.processor;
  missed = c.self.inside.missed;
  cia_a = c.self.inside.cia_a;
  cia_b = c.self.inside.cia_b;
  inputs = c.self.inside.inputs;
}

abbrev between_free : goal.After-owner_ask → WorkingChips
between_free c = record (before_free c) { registers = c.step-sprite.new.regs; last = c.step-plane.new.self; kinds = c.step-sprite.new.self }

free : (c : goal.After-owner_ask) → HasFetched c.args.beam.now (before_free c) (between_free c) None c.step-sprite.result
free c =
    fetched_by_steps c.args.beam.now (before_free c) (between_free c) c.step-plane.new.regs None c.step-sprite.result c.step-plane.ensures.begun
    c.step-plane.ensures.units (sym c.in_default.is ∙ c.step-plane.ensures.ask) c.step-plane.ensures.moved c.step-sprite.ensures.kinds
    c.step-sprite.ensures.ask c.step-sprite.ensures.moved refl

abbrev before_plane : goal.After-owner_ask-2 → WorkingChips
before_plane c = record {
  registers = c.self.inside.registers;
  last = c.self.inside.fetcher;
  kinds = c.self.inside.sprites;
  copper = c.self.inside.copper;
  blit = c.self.inside.blit;
  zero = c.self.inside.zero;
  irq = c.self.inside.irq;
  processor = c.self.inside.processor;
  missed = c.self.inside.missed;
  cia_a = c.self.inside.cia_a;
  cia_b = c.self.inside.cia_b;
  inputs = c.self.inside.inputs;
}

abbrev between_plane : goal.After-owner_ask-2 → WorkingChips
between_plane c = record (before_plane c) { registers = c.step-sprite-2.new.regs; last = c.step-plane.new.self; kinds = c.step-sprite-2.new.self }

taken : (c : goal.After-owner_ask-2)
    → HasFetched c.args.beam.now (before_plane c) (between_plane c) (Some c.in-Some.wish) c.step-sprite-2.result
taken c =
    fetched_by_steps c.args.beam.now (before_plane c) (between_plane c) c.step-plane.new.regs (Some c.in-Some.wish) c.step-sprite-2.result
    c.step-plane.ensures.begun c.step-plane.ensures.units (sym c.in-Some.is ∙ c.step-plane.ensures.ask) c.step-plane.ensures.moved
    c.step-sprite-2.ensures.kinds c.step-sprite-2.ensures.ask c.step-sprite-2.ensures.moved refl

pub returns-in_default-clause-ask : goal.returns-in_default-clause-ask
returns-in_default-clause-ask c =
    subst (λ old. (x : Chips) → IsChipsOf old x → c.owner_ask.result ≡ ask_at c.args.side c.args.beam.now x) c.self.view_is
    (ask_is_at c.args.side c.args.beam.now c.owner_ask.result (before_free c) (between_free c) None c.step-sprite.result (free c)
    c.owner_ask.ensures)

pub returns-in_default-clause-chips : goal.returns-in_default-clause-chips
returns-in_default-clause-chips c =
    subst (λ old. (x : Chips) → IsChipsOf old x → HasAsked c.args.beam.now x (between_free c)) c.self.view_is
    (has_asked c.args.beam.now (before_free c) (between_free c) None c.step-sprite.result (free c))

pub returns-in_default-clause-able : goal.returns-in_default-clause-able
returns-in_default-clause-able c =
    ask_can c.args.side c.args.beam.now c.owner_ask.result (before_free c) (between_free c) None c.step-sprite.result (free c) c.owner_ask.ensures

pub returns-in_default-clause-wish : goal.returns-in_default-clause-wish
returns-in_default-clause-wish c =
    subst (λ a. IsBlitAsk a (kept_wish (between_free c))) (sym c.owner_ask.ensures)
    (ask_is_of_blit c.args.side c.args.beam.now None c.step-sprite.result (kept_wish (between_free c)) (wish_shown (between_free c).processor)
    (plain_chips (between_free c)))

pub returns-clause-ask : goal.returns-clause-ask
returns-clause-ask c =
    subst (λ old. (x : Chips) → IsChipsOf old x → c.owner_ask-2.result ≡ ask_at c.args.side c.args.beam.now x) c.self.view_is
    (ask_is_at c.args.side c.args.beam.now c.owner_ask-2.result (before_plane c) (between_plane c) (Some c.in-Some.wish) c.step-sprite-2.result
    (taken c)
    c.owner_ask-2.ensures)

pub returns-clause-chips : goal.returns-clause-chips
returns-clause-chips c =
    subst (λ old. (x : Chips) → IsChipsOf old x → HasAsked c.args.beam.now x (between_plane c)) c.self.view_is
    (has_asked c.args.beam.now (before_plane c) (between_plane c) (Some c.in-Some.wish) c.step-sprite-2.result (taken c))

pub returns-clause-able : goal.returns-clause-able
returns-clause-able c =
    ask_can c.args.side c.args.beam.now c.owner_ask-2.result (before_plane c) (between_plane c) (Some c.in-Some.wish) c.step-sprite-2.result (taken c)
    c.owner_ask-2.ensures

pub returns-clause-wish : goal.returns-clause-wish
returns-clause-wish c =
    subst (λ a. IsBlitAsk a (kept_wish (between_plane c))) (sym c.owner_ask-2.ensures)
    (ask_is_of_blit c.args.side c.args.beam.now (Some c.in-Some.wish) c.step-sprite-2.result (kept_wish (between_plane c))
    (wish_shown (between_plane c).processor)
    (plain_chips (between_plane c)))
