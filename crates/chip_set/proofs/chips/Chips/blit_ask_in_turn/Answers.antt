use Rattle.std.proofs.Common.{Option, Some, ap, sym, ◌∙◌}
use Rattle.blit_words.specs.declared.blit.SlotAsk.{SlotAsk}
use Rattle.serial_model.specs.Bus.{blit_owner_ask}
use Rattle.chip_set.proofs.PartLaws.{wish_is, none_asks}
use Rattle.chip_set.proofs.chips.Chips.blit_ask_in_turn.Goals as goal

pub returns-in-Some : goal.returns-in-Some
returns-in-Some c =
    c.slot_ask.ensures
    ∙ ap (λ (ask : SlotAsk). blit_owner_ask (Some ask)) c.next.ensures.shown
    ∙ sym (ap (λ (wish : Option SlotAsk). blit_owner_ask wish) (wish_is _ _ c.in-Some.blit c.self.view_is c.requires c.in-Some.is))

pub returns-in-None : goal.returns-in-None
returns-in-None c = none_asks _ _ c.self.view_is c.in-None.is
