use Rattle.std.proofs.Common.{rules, ◌≡◌, Bool, false, None, is_some, ap, sym, subst, ◌∙◌}
use Rattle.serial_model.specs.declared.bus.SideAsk.TheVariants as S
use Rattle.serial_model.specs.declared.slots.SlotState.{SlotState}
use Rattle.serial_model.specs.Bus.{Wishes, slot_state}
use Rattle.serial_model.specs.Owner.{owner_of}
use Rattle.serial_model.specs.State.{Chips}
use Rattle.chip_set.specs.Chips.{plain_chips, kept_wish, wishes_with, ask_with}
use Rattle.chip_set.proofs.LateLaws.{IsLate, late_owner, late_free}
use Rattle.chip_set.proofs.chips.Chips.last_ask.Goals as goal

pub returns-in_default : goal.returns-in_default
unfolding ask_with
returns-in_default c =
    let chips : Chips = plain_chips c.args.self.now in
    let w : Wishes = wishes_with S.Nothing c.args.beam.now None None (kept_wish c.args.self.now) c.args.processor chips in
    let state : SlotState = slot_state c.args.beam.now chips w in
    let copper : state.copper ≡ false = ap (λ wish. is_some wish) c.requires in
    let without : Bool → SlotState = λ asks. record state { copper = asks } in
    let late : IsLate (owner_of state) =
    subst (λ asks. IsLate (owner_of (without asks))) (sym copper) (late_owner state state.blitter state.processor) in
    let owner : c.slot_owner.result ≡ owner_of state = c.slot_owner.ensures.owner ∙ search rules in
    late_free (owner_of state) w late (λ is. c.in_default.not-Blitter (owner ∙ is)) (λ is. c.in_default.not-Processor (owner ∙ is))
