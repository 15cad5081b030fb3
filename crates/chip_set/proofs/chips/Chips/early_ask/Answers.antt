use Rattle.std.proofs.Common.{rules, ◌≡◌, Some, None, refl, subst, sym, ◌∙◌}
use Rattle.serial_model.specs.declared.bus.SideAsk.TheVariants as S
use Rattle.serial_model.specs.Bus.{ask_at}
use Rattle.serial_model.specs.State.{Chips}
use Rattle.cpu_bus.specs.Bus.{wish_shown}
use Rattle.chip_set.specs.Chips.{WorkingChips, IsChipsOf, HasAsked, IsBlitAsk, kept_wish, plain_chips, late_ask}
use Rattle.chip_set.proofs.AbleLaws.{ask_can}
use Rattle.chip_set.proofs.AskLaws.{HasFetched, fetched_by_steps, ask_is_at, has_asked, ask_is_of_blit}
use Rattle.chip_set.proofs.chips.Chips.early_ask.Goals as goal

-- the chips before the steps of the fetches, and after them: where nobody fetches, where a sprite does, and where a plane does
abbrev before_nobody : goal.Then-is_none → WorkingChips
before_nobody c = record {
  registers = c.self.inside.registers;
  last = c.self.inside.fetcher;
  kinds = c.self.inside.sprites;
  copper = c.self.inside.copper;
  blit = c.self.inside.blit;
  zero = c.self.inside.zero;
  irq = c.self.inside.irq;
  processor = c.self.inside.processor;
  missed = c.self.inside.missed;
  cia_a = c.self.inside.cia_a;
  cia_b = c.self.inside.cia_b;
  inputs = c.self.inside.inputs;
}

abbrev behind_nobody : goal.Then-is_none → WorkingChips
behind_nobody c = record (before_nobody c) { registers = c.step-sprite.new.regs; last = c.step-plane.new.self; kinds = c.step-sprite.new.self }

nobody : (c : goal.Then-is_none) → HasFetched c.args.beam.now (before_nobody c) (behind_nobody c) None None
nobody c =
    let none : c.step-sprite.result ≡ None = search rules in
    fetched_by_steps c.args.beam.now (before_nobody c) (behind_nobody c) c.step-plane.new.regs None None c.step-plane.ensures.begun
    c.step-plane.ensures.units (sym c.in_default.is ∙ c.step-plane.ensures.ask) c.step-plane.ensures.moved c.step-sprite.ensures.kinds
    (sym none ∙ c.step-sprite.ensures.ask) c.step-sprite.ensures.moved refl

abbrev before_sprite : goal.After-chips_ask → WorkingChips
before_sprite c = record {
  registers = c.self.inside.registers;
  last = c.self.inside.fetcher;
  kinds = c.self.inside.sprites;
  copper = c.self.inside.copper;
  blit = c.self.inside.blit;
  zero = c.self.inside.zero;
  irq = c.self.inside.irq;
  processor = c.self.inside.processor;
  missed = c.self.inside.missed;
  cia_a = c.self.inside.cia_a;
  cia_b = c.self.inside.cia_b;
  inputs = c.self.inside.inputs;
}

abbrev behind_sprite : goal.After-chips_ask → WorkingChips
behind_sprite c = record (before_sprite c) { registers = c.step-sprite.new.regs; last = c.step-plane.new.self; kinds = c.step-sprite.new.self }

sprite : (c : goal.After-chips_ask) → HasFetched c.args.beam.now (before_sprite c) (behind_sprite c) None c.step-sprite.result
sprite c =
    fetched_by_steps c.args.beam.now (before_sprite c) (behind_sprite c) c.step-plane.new.regs None c.step-sprite.result c.step-plane.ensures.begun
    c.step-plane.ensures.units (sym c.in_default.is ∙ c.step-plane.ensures.ask) c.step-plane.ensures.moved c.step-sprite.ensures.kinds
    c.step-sprite.ensures.ask c.step-sprite.ensures.moved refl

abbrev before_plane : goal.After-chips_ask-2 → WorkingChips
before_plane c = record {
  registers = c.self.inside.registers;
  last = c.self.inside.fetcher;
  kinds = c.self.inside.sprites;
  copper = c.self.inside.copper;
  blit = c.self.inside.blit;
  zero = c.self.inside.zero;
  irq = c.self.inside.irq;
  processor = c.self.inside.processor;
  missed = c.self.inside.missed;
  cia_a = c.self.inside.cia_a;
  cia_b = c.self.inside.cia_b;
  inputs = c.self.inside.inputs;
}

abbrev behind_plane : goal.After-chips_ask-2 → WorkingChips
behind_plane c = record (before_plane c) { registers = c.step-sprite-2.new.regs; last = c.step-plane.new.self; kinds = c.step-sprite-2.new.self }

plane : (c : goal.After-chips_ask-2) → HasFetched c.args.beam.now (before_plane c) (behind_plane c) (Some c.in-Some.wish) c.step-sprite-2.result
plane c =
    fetched_by_steps c.args.beam.now (before_plane c) (behind_plane c) c.step-plane.new.regs (Some c.in-Some.wish) c.step-sprite-2.result
    c.step-plane.ensures.begun
    c.step-plane.ensures.units (sym c.in-Some.is ∙ c.step-plane.ensures.ask) c.step-plane.ensures.moved c.step-sprite-2.ensures.kinds
    c.step-sprite-2.ensures.ask c.step-sprite-2.ensures.moved refl

pub returns-then-is_none-clause-ask : goal.returns-then-is_none-clause-ask
returns-then-is_none-clause-ask c =
    subst (λ old. (x : Chips) → IsChipsOf old x → (late_ask c.args.beam.now (behind_nobody c)) ≡ ask_at S.Nothing c.args.beam.now x) c.self.view_is
    (ask_is_at S.Nothing c.args.beam.now (late_ask c.args.beam.now (behind_nobody c)) (before_nobody c) (behind_nobody c) None None (nobody c) refl)

pub returns-then-is_none-clause-chips : goal.returns-then-is_none-clause-chips
returns-then-is_none-clause-chips c =
    subst (λ old. (x : Chips) → IsChipsOf old x → HasAsked c.args.beam.now x (behind_nobody c)) c.self.view_is
    (has_asked c.args.beam.now (before_nobody c) (behind_nobody c) None None (nobody c))

pub returns-then-is_none-clause-able : goal.returns-then-is_none-clause-able
returns-then-is_none-clause-able c =
    ask_can S.Nothing c.args.beam.now (late_ask c.args.beam.now (behind_nobody c)) (before_nobody c) (behind_nobody c) None None (nobody c) refl

pub returns-then-is_none-clause-wish : goal.returns-then-is_none-clause-wish
returns-then-is_none-clause-wish c =
    subst (λ a. IsBlitAsk a (kept_wish (behind_nobody c))) (sym (refl))
    (ask_is_of_blit S.Nothing c.args.beam.now None None (kept_wish (behind_nobody c)) (wish_shown (behind_nobody c).processor)
    (plain_chips (behind_nobody c)))

pub returns-in_default-clause-ask : goal.returns-in_default-clause-ask
returns-in_default-clause-ask c =
    subst (λ old. (x : Chips) → IsChipsOf old x → c.chips_ask.result ≡ ask_at S.Nothing c.args.beam.now x) c.self.view_is
    (ask_is_at S.Nothing c.args.beam.now c.chips_ask.result (before_sprite c) (behind_sprite c) None c.step-sprite.result (sprite c) c.chips_ask.ensures)

pub returns-in_default-clause-chips : goal.returns-in_default-clause-chips
returns-in_default-clause-chips c =
    subst (λ old. (x : Chips) → IsChipsOf old x → HasAsked c.args.beam.now x (behind_sprite c)) c.self.view_is
    (has_asked c.args.beam.now (before_sprite c) (behind_sprite c) None c.step-sprite.result (sprite c))

pub returns-in_default-clause-able : goal.returns-in_default-clause-able
returns-in_default-clause-able c =
    ask_can S.Nothing c.args.beam.now c.chips_ask.result (before_sprite c) (behind_sprite c) None c.step-sprite.result (sprite c) c.chips_ask.ensures

pub returns-in_default-clause-wish : goal.returns-in_default-clause-wish
returns-in_default-clause-wish c =
    subst (λ a. IsBlitAsk a (kept_wish (behind_sprite c))) (sym (c.chips_ask.ensures))
    (ask_is_of_blit S.Nothing c.args.beam.now None c.step-sprite.result (kept_wish (behind_sprite c)) (wish_shown (behind_sprite c).processor)
    (plain_chips (behind_sprite c)))

pub returns-clause-ask : goal.returns-clause-ask
returns-clause-ask c =
    subst (λ old. (x : Chips) → IsChipsOf old x → c.chips_ask-2.result ≡ ask_at S.Nothing c.args.beam.now x) c.self.view_is
    (ask_is_at S.Nothing c.args.beam.now c.chips_ask-2.result (before_plane c) (behind_plane c) (Some c.in-Some.wish) c.step-sprite-2.result
    (plane c) c.chips_ask-2.ensures)

pub returns-clause-chips : goal.returns-clause-chips
returns-clause-chips c =
    subst (λ old. (x : Chips) → IsChipsOf old x → HasAsked c.args.beam.now x (behind_plane c)) c.self.view_is
    (has_asked c.args.beam.now (before_plane c) (behind_plane c) (Some c.in-Some.wish) c.step-sprite-2.result (plane c))

pub returns-clause-able : goal.returns-clause-able
returns-clause-able c =
    ask_can S.Nothing c.args.beam.now c.chips_ask-2.result (before_plane c) (behind_plane c) (Some c.in-Some.wish) c.step-sprite-2.result
    (plane c) c.chips_ask-2.ensures

pub returns-clause-wish : goal.returns-clause-wish
returns-clause-wish c =
    subst (λ a. IsBlitAsk a (kept_wish (behind_plane c))) (sym (c.chips_ask-2.ensures))
    (ask_is_of_blit S.Nothing c.args.beam.now (Some c.in-Some.wish) c.step-sprite-2.result (kept_wish (behind_plane c)) (wish_shown (behind_plane c).processor)
    (plain_chips (behind_plane c)))
